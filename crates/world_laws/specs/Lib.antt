pub mod Prelude
pub use Rattle.world_rules.specs.LogText
pub mod Bounds
pub mod Turnover
pub mod Ranges
pub mod LowerLaws
