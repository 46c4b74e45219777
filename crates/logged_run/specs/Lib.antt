pub mod Prelude
pub mod RunText
pub mod Watching
pub mod WatchedRun
pub mod Publishing
