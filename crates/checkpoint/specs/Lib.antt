pub mod Prelude
pub use Rattle.saved_worlds.specs.SavedGrammar
pub use Rattle.saved_worlds.specs.SavedState
pub use Rattle.saved_worlds.specs.ValidState
pub mod SoFarValue
pub mod Reading
