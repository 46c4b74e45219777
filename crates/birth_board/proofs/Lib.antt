pub mod ParentsLemmas
pub mod PlacementLemmas
