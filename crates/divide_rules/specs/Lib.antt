pub mod Rules
pub mod Viability
