use Rattle.std.proofs.Common.{◌≡◌, ◌++◌}
use Rattle.landscape.proofs.ChangeLemmas.{places_left}
use Rattle.landscape.proofs.changes.changes_of.Given as goal

-- the changes so far, and those of the places that are left
abbrev pub invariant-loop-at : goal.invariant-loop-at
invariant-loop-at l = l.changes.items ++ places_left l.genome l.at ≡ places_left l.genome 0
