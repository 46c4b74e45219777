pub mod RandomStream
pub mod Rows
