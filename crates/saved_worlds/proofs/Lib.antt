pub mod Prelude
pub mod Alike
pub mod Quiet
pub mod Resumes
mod Heads
pub mod Valid
mod Lines
mod Runs
pub mod ReadsSavedLemmas
