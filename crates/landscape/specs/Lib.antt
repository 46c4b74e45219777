pub mod Trials
pub mod Landscape
