pub mod Letter
pub mod Defaults
