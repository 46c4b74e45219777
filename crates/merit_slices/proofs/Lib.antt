pub mod MeritLemmas
pub mod SliceLemmas
