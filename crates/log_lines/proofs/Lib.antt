pub mod Prelude
pub mod TextLemmas
pub mod KeptLemmas
pub mod LetterLemmas
pub mod FieldLaws
pub mod ListLaws
pub mod RowLaws
pub mod KindLaws
pub mod LineLaws
pub mod WordLemmas
pub mod TimesLemmas
pub mod GenomeLemmas
mod FrontLemmas
mod BeginLemmas
mod MarkLemmas
pub mod BirthFrontLemmas
