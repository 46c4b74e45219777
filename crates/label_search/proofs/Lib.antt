pub mod Prelude
pub mod PackedLemmas
pub mod TemplateLemmas
pub mod SearchLemmas
pub mod SiteLemmas
