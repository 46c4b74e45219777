pub mod Counts
pub mod Changes
