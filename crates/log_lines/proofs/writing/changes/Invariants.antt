use Rattle.std.proofs.Common.{◌≡◌, ◌++◌, take}
use Rattle.log_lines.proofs.TextLemmas.{items_text}
use Rattle.log_lines.proofs.writing.changes.Given as goal

abbrev pub invariant-loop-at : goal.invariant-loop-at
invariant-loop-at l = l.out.items ≡ l.initial.out.items ++ items_text (take l.at l.changes)
