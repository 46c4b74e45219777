use Rattle.std.proofs.Common.{◌≡◌, ◌++◌}
use Rattle.landscape.proofs.ChangeLemmas.{changes_left}
use Rattle.landscape.proofs.changes.push_changes.Given as goal

-- the changes so far, and those of the letters that are left
abbrev pub invariant-loop-index : goal.invariant-loop-index
invariant-loop-index l = l.changes.items ++ changes_left l.at l.letter l.index ≡ l.fn.changes.items
    ++ changes_left l.at l.letter 0
