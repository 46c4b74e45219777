pub use Rattle.log_lines.specs.Line
pub mod CommonAncestor
pub mod TreeText
pub mod Slots
