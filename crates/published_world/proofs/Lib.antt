pub mod PrefixLemmas
pub mod PublicationLemmas
pub mod RuleLemmas
pub mod SightLemmas
pub mod AppendLemmas
