pub mod Prelude
-- The files in the order of reading. The last four are the code's own: no clause of a public
-- function cites them. The main definition is `config_of` in Config: what the bytes of a document
-- are read as.
pub use Rattle.toml.specs.Data
pub use Rattle.genome.specs.Genome
pub mod KeyTable
pub mod Lookup
pub mod Refusal
pub mod Events
pub mod EventForms
pub mod Values
pub mod Config
pub mod EventTables
pub mod Groups
pub mod Printing
