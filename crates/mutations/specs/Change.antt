-- Changes of a text, and what a function has done that drew some (docs/WORLD.md, "Records of
-- birth").
use Rattle.std.specs.Prelude.{ℕ, ◌+◌, Bool, ◌&&◌, nat_lt, nat_le, if◌then◌else◌, List, [], ◌∷◌, length, slice_set, insert, remove, Result, Ok, Err, ◌≡◌, ◌≤◌, ◌++◌}
use Rattle.instruction_set.specs.declared.letter.Letter.{Letter}
use Rattle.genome.specs.Lengths.{shortest_genome, longest_genome}
use Rattle.mutations.specs.declared.change.Change.{Change}
use Rattle.mutations.specs.declared.change.Change.TheVariants.{Point, Insert, Delete}
use Rattle.mutations.specs.declared.stop.ApplyStop.{ApplyStop}
use Rattle.mutations.specs.declared.stop.ApplyStop.TheVariants.{Place, Length}
use Rattle.random_streams.specs.RandomStream.{Stream}
use Rattle.mutations.specs.DivideErrors.{Drawn}
use Rattle.mutations.specs.Rates.{LengthRange}

-- whether a change has its place in a text of this length
abbrev pub has_place : Change → ℕ → Bool
has_place (Point at letter) len = nat_lt at len
has_place (Insert at letter) len = nat_le at len
has_place (Delete at) len = nat_lt at len

-- a text with one change
abbrev pub with_change : Change → List Letter → List Letter
with_change (Point at letter) text = slice_set text at letter
with_change (Insert at letter) text = insert text at letter
with_change (Delete at) text = remove text at

-- whether a genome has this length
abbrev pub is_genome_length : ℕ → Bool
is_genome_length len = nat_le shortest_genome len && nat_le len longest_genome

-- the text after all changes in turn, numbered from nth, or the first change that is refused
abbrev pub text_after : ℕ → List Change → List Letter → Result (List Letter) ApplyStop
text_after nth [] text = Ok text
text_after nth (change ∷ changes) text =
    if has_place change (length text)
    then (if is_genome_length (length (with_change change text))
    then text_after (nth + 1) changes (with_change change text)
    else Err (Length nth))
    else Err (Place nth)

-- the changes make this text of that one
pub record Makes (changes : List Change) (from to : List Letter) : Type 0 where
  pub made : (nth : ℕ) → text_after nth changes from ≡ Ok to

-- a text that is being changed, the changes noted so far, and the stream of words
pub record PassState : Type 0 where
  pub text : List Letter
  pub changes : List Change
  pub draws : Stream

-- it made the changes drawn, noted them, and left the stream before the word after theirs
pub record Passed (drawn : Drawn) (before after : PassState) : Type 0 where
  pub made : Makes drawn.changes before.text after.text
  pub noted : after.changes ≡ before.changes ++ drawn.changes
  pub taken : after.draws ≡ record before.draws { taken = drawn.next }

-- a length that is allowed, as genomes have them
pub record Fits (range : LengthRange) (len : ℕ) : Type 0 where
  pub shortest : shortest_genome ≤ range.least
  pub least : range.least ≤ len
  pub greatest : len ≤ range.greatest
  pub longest : range.greatest ≤ longest_genome
