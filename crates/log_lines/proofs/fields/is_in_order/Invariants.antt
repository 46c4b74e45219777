use Rattle.std.proofs.Common.{◌≡◌, length}
use Rattle.log_lines.proofs.Prelude.{in_order}
use Rattle.log_lines.proofs.fields.is_in_order.Given as goal

abbrev pub invariant-loop-rest : goal.invariant-loop-rest
invariant-loop-rest l = in_order l.rest ≡ in_order l.changes

abbrev pub decreases-loop-rest : goal.decreases-loop-rest
decreases-loop-rest l = length l.rest
