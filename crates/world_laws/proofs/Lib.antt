pub mod Prelude
pub mod ListLemmas
mod Mirror
pub mod Scenes
mod Steps
mod UpdateLines
mod Updates
mod Placements
mod LivesLemmas
mod AfterLives
mod Configs
mod Sounds
mod Endings
mod Runs
pub mod WholeLogs
mod FormLemmas
mod LeavingLines
mod Forms
mod RunForms
mod Replays
pub mod ConfigBounds
mod Descents
mod LineDescents
mod Merits
pub mod Keepings
mod Parents
mod Turnovers
mod LifeRanges
mod Each
mod Ranges
mod Ids
