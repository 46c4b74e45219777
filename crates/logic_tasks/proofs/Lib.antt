pub mod BitLemmas
pub mod InputsLaws
pub mod PairLemmas
pub mod TaskBitsLemmas
