-- How the time of an update is shared (docs/WORLD.md, "Time slices").
use Rattle.std.specs.Prelude.{ℕ, ◌+◌, ◌-◌, ◌*◌, ◌/◌, nat_lt, ◌==◌, List, length, map, take, sum, count_by, replicate, if◌then◌else◌}
use Rattle.std.specs.List.{range_with_len}

-- the number of merits above 0
abbrev pub living_in : List ℕ → ℕ
living_in merits = count_by (λ merit. nat_lt 0 merit) merits

-- the part of the steps that falls to a part of the merits, rounded down
abbrev pub quota : ℕ → ℕ → ℕ → ℕ
quota steps part all = steps * part / all

-- the steps of all cells before a place
abbrev pub steps_before : List ℕ → ℕ → ℕ → ℕ
steps_before merits steps cell = quota steps (sum (take cell merits)) (sum merits)

-- the steps of one cell
abbrev pub share_of : List ℕ → ℕ → ℕ → ℕ
share_of merits steps cell = steps_before merits steps (cell + 1) - steps_before merits steps cell

-- the steps of each cell
abbrev pub shares_of : List ℕ → ℕ → List ℕ
shares_of merits steps = map (share_of merits steps) (range_with_len 0 (length merits))

-- the slices of a world with these merits; where all are 0 each cell gets 0
unfoldable pub slices_of : List ℕ → ℕ → List ℕ
slices_of merits average =
    if sum merits == 0 then replicate (length merits) 0
    else shares_of merits (average * living_in merits)
