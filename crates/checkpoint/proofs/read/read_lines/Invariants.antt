use Rattle.std.proofs.Common.{◌≡◌, ◌+◌, ◌≤◌, length}
use Rattle.checkpoint.proofs.Prelude.{pieces_state, saved_of, saved_place_of, cut}
use Rattle.checkpoint.proofs.read.read_lines.Given as goal

abbrev pub invariant-loop-behind : goal.invariant-loop-behind
invariant-loop-behind l = record {
  left : pieces_state l.number (saved_place_of l.place) (cut l.rest) ≡ saved_of l.fn.bytes;
  few : l.number + length l.rest ≤ length l.fn.bytes + 1;
}

abbrev pub decreases-loop-behind : goal.decreases-loop-behind
decreases-loop-behind l = length l.rest
