pub mod DominanceLemmas
pub mod GenotypeLemmas
pub mod LetterLemmas
pub mod MemberLemmas
pub mod TaskLemmas
