pub mod Torus
pub mod Placement
