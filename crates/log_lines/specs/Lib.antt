pub mod Prelude
-- The files in the order of reading. Line says what a line tells, LineWords and LineText how it is
-- written. Fields to LineReading say the same by a table of forms, from which a line is also read.
-- Words and Kept are for functions that read or write a part of a line.
pub use Rattle.genome.specs.Genome
pub use Rattle.mutations.specs.BirthRecord
pub mod Line
pub mod LineText
pub mod Fields
pub mod Kinds
pub mod Forms
pub mod LineReading
pub mod Words
