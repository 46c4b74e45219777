-- The search of h-search (docs/MACHINE.md, "h-search").
use Rattle.std.specs.Prelude.{◌≡◌, ℕ, ◌+◌, ◌≤◌, Bool, Option, List, length, take, drop, find}
use Rattle.std.specs.List.{starts_with, range_with_len}
use Rattle.instruction_set.specs.declared.letter.Letter.{Letter}
use Rattle.instruction_set.specs.Letter.{same_letter}

-- the template stands at this place, wholly before the end of memory
abbrev pub OccursAt : List Letter → List Letter → ℕ → Type 0
OccursAt memory template place =
    (place + length template ≤ length memory)
    × (take (length template) (drop place memory) ≡ template)

-- the letters begin with the template
abbrev pub begins_with : List Letter → List Letter → Bool
begins_with letters template = starts_with same_letter letters template

-- the test of `OccursAt`
abbrev pub occurs_at : List Letter → List Letter → ℕ → Bool
occurs_at memory template place = begins_with (drop place memory) template

-- the first of the places of memory at which the template stands
abbrev pub first_match : List Letter → List Letter → Option ℕ
first_match memory template = find (occurs_at memory template) (range_with_len 0 (length memory))
