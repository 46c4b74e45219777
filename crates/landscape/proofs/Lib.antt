pub mod RangeLemmas
pub mod TrialLemmas
pub mod ChangeLemmas
pub mod MapLemmas
