pub mod GainedLemmas
pub mod PutLemmas
pub mod PieceLemmas
pub mod WriteLemmas
pub mod GrowingTexts
