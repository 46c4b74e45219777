pub mod Form
pub mod Words
pub mod Commands
pub mod Rows
pub mod CommandLine
pub mod Reading
pub mod Parsers
pub use Rattle.clap.specs.Lexer.{long_of}
