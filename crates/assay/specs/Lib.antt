pub use Rattle.genome.specs.Genome
pub use Rattle.world_config.specs.Values
pub mod Assay
