use Rattle.std.proofs.Common.{◌≡◌, ◌-◌, length}
use Rattle.label_search.proofs.Prelude.{find, range_with_len, occurs_at, first_match, letters_of}
use Rattle.label_search.proofs.search.least_match.Given as goal

-- the first match is among the places that are left
abbrev pub invariant-loop-place : goal.invariant-loop-place
invariant-loop-place l =
    find (occurs_at (letters_of l.memory) l.what)
    (range_with_len l.place (length l.memory - l.place))
    ≡ first_match (letters_of l.memory) l.what
