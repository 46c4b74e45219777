pub mod Prelude
mod NumberLemmas
mod EnterLemmas
mod BuryLemmas
mod SeenLemmas
