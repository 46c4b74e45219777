pub mod Prelude
pub mod IdLemmas
pub mod Updates
mod LineLemmas
mod TinyPlacings
