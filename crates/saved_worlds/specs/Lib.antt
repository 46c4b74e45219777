pub use Rattle.world_rules.specs.WorldRun
pub use Rattle.world_rules.specs.LogText
pub mod SavedState
pub mod Resuming
pub mod SavedOrder
pub mod SavedGrammar
pub mod ValidState
