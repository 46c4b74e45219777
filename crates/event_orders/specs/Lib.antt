pub use Rattle.genotype_bank.specs.BankHistory
pub use Rattle.world_config.specs.Values
pub use Rattle.world_rules.specs.WorldRun
pub mod State
pub mod Schedule
pub mod Orders
