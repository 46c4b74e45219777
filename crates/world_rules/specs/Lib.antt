pub mod Prelude
-- The files in the order of reading: from a world, by its lives and the scenes within an update, to
-- the world and the log after so many updates.
pub use Rattle.world_config.specs.Values
pub mod World
pub mod Settings
pub mod Lives
pub mod Update
pub mod WorldRun
pub mod Statistics
pub mod Descent
pub mod Picture
pub mod LogText
pub mod TinyWorlds
