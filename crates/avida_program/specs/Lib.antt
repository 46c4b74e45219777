pub mod Prelude
pub mod Status
pub mod TraceText
pub mod Output
pub mod Input
pub mod SavedRuns
pub mod Endings
pub mod Commands
