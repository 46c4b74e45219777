-- What is known of a log between two of its lines: who stands in each cell, and the genomes that
-- the reader keeps (docs/FORMATS.md, "The log").
use Rattle.std.specs.Prelude.{ℕ, List, Option, Some, None, Bool, true, false, ◌==◌, count_by, is_some, ◌≡◌, [], map, IsSome, option_and_then, slice_get, unwrap_or, ◌∷◌, ◌++◌, length, nat_lt, slice_set, if◌then◌else◌}
use Rattle.lineage_log.specs.Prelude.{Letter, option_to_list}
use Rattle.lineage_log.specs.declared.stage.Stage.{Stage}
use Rattle.lineage_log.specs.declared.stage.Stage.TheVariants.{Quiet, Dying, Happening}

-- the cell is there, and this stands in it
abbrev pub holds : Option (Option ℕ) → Option ℕ → Bool
holds (Some None) None = true
holds (Some (Some a)) (Some b) = a == b
holds _ _ = false

-- how many cells are taken
abbrev pub taken : List (Option ℕ) → ℕ
taken slots = count_by is_some slots

-- by id the genomes that are kept
abbrev pub kept_genomes : List (Option (List Letter)) → List (List Letter)
kept_genomes people = map (λ found. unwrap_or found []) people

-- the genome of each who stands in a cell is kept
abbrev pub EachIsKept : List (Option ℕ) → List (Option (List Letter)) → Type 0
EachIsKept standing people =
    (cell id : ℕ)
    → slice_get standing cell ≡ Some (Some id)
    → IsSome (option_and_then (λ found. found) (slice_get people id))

-- `people` has by id the genomes of the living and the update's dead, `newest` its first new id
pub record Reader : Type 0 where
  pub version : ℕ
  pub due : ℕ
  pub stage : Stage
  pub standing : List (Option ℕ)
  pub people : List (Option (List Letter))
  pub newest : ℕ
  pub leaving : List ℕ
  pub births : ℕ

-- a death in this cell may come at this stage
abbrev pub may_die : Stage → ℕ → Bool
may_die Quiet cell = true
may_die (Dying last) cell = nat_lt last cell
may_die _ cell = false

-- a birth may come at this stage
abbrev pub may_be_born : Stage → Bool
may_be_born Happening = false
may_be_born _ = true

-- nothing of the update has come yet
abbrev pub is_quiet : Stage → Bool
is_quiet Quiet = true
is_quiet _ = false

-- the genome of somebody who lived when the update began
abbrev pub parent_in : Reader → ℕ → Option (List Letter)
parent_in r parent =
    if nat_lt parent r.newest
    then option_and_then (λ found. found) (slice_get r.people parent)
    else None

-- somebody new with the next id stands in the cell, and who stood there dies
abbrev pub reader_with_newcomer : Reader → Stage → ℕ → Option ℕ → List Letter → ℕ → Reader
reader_with_newcomer r stage cell over genome births = record r {
  stage = stage;
  standing = slice_set r.standing cell (Some (length r.people));
  people = r.people ++ Some genome ∷ [];
  leaving = r.leaving ++ option_to_list over;
  births = births;
}

-- who stands in the cell dies
abbrev pub reader_with_death : Reader → Stage → ℕ → ℕ → Reader
reader_with_death r stage cell id =
    record r {
      stage = stage;
      standing = slice_set r.standing cell None;
      leaving = r.leaving ++ id ∷ [];
    }
