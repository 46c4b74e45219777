pub mod Merit
pub mod Slices
