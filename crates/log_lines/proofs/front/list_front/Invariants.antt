use Rattle.std.proofs.Common.{◌≡◌, ◌++◌, length}
use Rattle.log_lines.proofs.Prelude.{AllByRecursion, FitsChange}
use Rattle.log_lines.proofs.BirthFrontLemmas.{listed}
use Rattle.log_lines.proofs.front.list_front.Given as goal

abbrev pub invariant-loop-left : goal.invariant-loop-left
invariant-loop-left l =
    (l.fn.text ≡ listed l.found.items ++ l.left) × AllByRecursion FitsChange l.found.items

abbrev pub decreases-loop-left : goal.decreases-loop-left
decreases-loop-left l = length l.left
