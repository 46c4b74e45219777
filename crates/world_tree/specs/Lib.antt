pub use Rattle.lineage_log.specs.Ancestry
pub use Rattle.world_config.specs.Values
pub use Rattle.world_rules.specs.Descent
pub use Rattle.world_rules.specs.WorldRun
pub mod WorldTrees
