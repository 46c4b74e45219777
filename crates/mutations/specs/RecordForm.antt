-- The form that a record of a birth has in a log (docs/FORMATS.md, "The log").
use Rattle.std.specs.Prelude.{◌≡◌, ℕ, ◌≤◌, Bool, true, false, ◌&&◌, nat_lt, List, [], ◌∷◌, length, IfSome}
use Rattle.std.specs.List.{AllByRecursion}
use Rattle.instruction_set.specs.declared.letter.Letter.{Letter}
use Rattle.mutations.specs.declared.change.Change.{Change}
use Rattle.mutations.specs.declared.change.Change.TheVariants.{Point, Insert, Delete}
use Rattle.mutations.specs.Change.{is_genome_length}
use Rattle.mutations.specs.BirthRecord.{BirthRecord}

-- a number from least to greatest
abbrev pub IsWithin : ℕ → ℕ → ℕ → Type 0
IsWithin least greatest n = (least ≤ n) × (n ≤ greatest)

-- an update, a cell or a place: a number below 2 ^ 32
abbrev pub IsSmall : ℕ → Type 0
IsSmall n = IsWithin 0 4294967295 n

-- as many letters as a genome can have, from 8 to 8,192
abbrev pub HasGenomeLength : List Letter → Type 0
HasGenomeLength letters = is_genome_length (length letters) ≡ true

-- the place of a change is small
abbrev pub FitsChange : Change → Type 0
FitsChange (Point at letter) = IsSmall at
FitsChange (Insert at letter) = IsSmall at
FitsChange (Delete at) = IsSmall at

-- points with rising places come first, then insertions, then deletions
abbrev pub change_may_follow : Change → Change → Bool
change_may_follow (Point at letter) (Point next _) = nat_lt at next
change_may_follow (Point at letter) _ = true
change_may_follow (Insert at letter) (Point next _) = false
change_may_follow (Insert at letter) _ = true
change_may_follow (Delete at) (Delete next) = true
change_may_follow (Delete at) _ = false

-- each change may follow the one before it
abbrev pub in_order : List Change → Bool
in_order [] = true
in_order (a ∷ []) = true
in_order (a ∷ b ∷ changes) = change_may_follow a b && in_order (b ∷ changes)

-- a record that a log can write: the base is the parent's genome, or letters of a genome's length
pub record HasRecordForm (birth : BirthRecord) : Type 0 where
  pub base : IfSome birth.written HasGenomeLength
  pub changes : AllByRecursion FitsChange birth.changes
  pub order : in_order birth.changes ≡ true
