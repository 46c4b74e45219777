pub mod Prelude
-- The files in the order of reading. SavedValues to SavedForms say what a line tells, how it is
-- written and which values it has. The others say how it is read.
pub mod SavedValues
pub mod SavedText
pub mod SavedForms
pub mod SavedFields
pub mod SavedRows
pub mod SavedTables
pub mod SavedReading
