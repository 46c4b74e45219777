pub mod Template
pub mod Search
pub mod Site
pub use Rattle.instruction_set.specs.Letter
