pub mod EqualLemmas
pub mod ListLemmas
pub mod TextLemmas
