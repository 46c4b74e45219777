-- The record of a birth and the child that it makes (docs/WORLD.md, "Records of birth").
use Rattle.std.specs.Prelude.{ℕ, if◌then◌else◌, List, ◌++◌, length, Option, None, Some, unwrap_or, Result}
use Rattle.instruction_set.specs.declared.letter.Letter.{Letter}
pub use Rattle.instruction_set.specs.Letter.{same_letters}
use Rattle.genome.specs.Genome.{letters}
use Rattle.mutations.specs.declared.base.Base.{Base}
use Rattle.mutations.specs.declared.base.Base.TheVariants.{Parent, Written}
use Rattle.mutations.specs.declared.change.Change.{Change}
use Rattle.mutations.specs.declared.indels.Indel.TheVariants.{Insertion, Deletion}
use Rattle.mutations.specs.declared.origin.Origin.{Origin}
use Rattle.mutations.specs.declared.stop.ApplyStop.{ApplyStop}
use Rattle.mutations.specs.Change.{text_after}
use Rattle.mutations.specs.Rates.{RateNumbers, LengthRange}
use Rattle.mutations.specs.DivideErrors.{Drawn, pointed_text, after_points, points_from}
use Rattle.mutations.specs.Indels.{Draft, indels, draft_after}

-- a record: the written text, or none where the base is the parent's genome, and the changes
pub record BirthRecord : Type 0 where
  pub written : Option (List Letter)
  pub changes : List Change

-- the written text of a base
abbrev pub written_in : Base → Option (List Letter)
written_in Parent = None
written_in (Written genome) = Some (letters genome)

-- the record in an origin
abbrev pub record_of : Origin → BirthRecord
record_of origin = record { written = written_in origin.base; changes = origin.changes }

-- the child that a record makes of the parent's genome, or the first change that is refused
abbrev pub child_of : List Letter → BirthRecord → Result (List Letter) ApplyStop
child_of parent birth = text_after 1 birth.changes (unwrap_or birth.written parent)

-- the clean text, unless it is the parent's genome
abbrev pub written_of : List Letter → List Letter → Option (List Letter)
written_of clean parent = if same_letters clean parent then None else Some clean

-- a birth's changes: points where the text with site points isn't clean, insertions, deletions
unfoldable pub drawn_by_divide :
    (ℕ → ℕ) → ℕ → RateNumbers → LengthRange → List Letter → List Letter → Drawn
drawn_by_divide words k rates limits clean written =
    let text = pointed_text words rates.site_point k written in
    let points = points_from 0 clean text in
    let next = after_points words rates.site_point k written in
    let pointed : Draft = record { size = length written; word = next } in
    let inserted = indels Insertion rates limits words pointed in
    let longer = draft_after Insertion inserted pointed in
    let deleted = indels Deletion rates limits words longer in
    record { changes = points ++ inserted.changes ++ deleted.changes; next = deleted.next }

-- the record of a birth, word k being the first
abbrev pub origin_of :
    (ℕ → ℕ) → ℕ → RateNumbers → LengthRange → List Letter → List Letter → List Letter → BirthRecord
origin_of words k rates limits clean written parent = record {
  written = written_of clean parent;
  changes = (drawn_by_divide words k rates limits clean written).changes;
}

-- the number of the word after those of a birth
abbrev pub after_birth : (ℕ → ℕ) → ℕ → RateNumbers → LengthRange → List Letter → List Letter → ℕ
after_birth words k rates limits clean written =
    (drawn_by_divide words k rates limits clean written).next
