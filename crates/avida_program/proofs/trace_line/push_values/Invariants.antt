-- The values so far are pushed.
use Rattle.std.proofs.Common.{◌≡◌, ◌≤◌, ◌+◌, ◌*◌, ◌++◌, length, take}
use Rattle.avida_program.proofs.Prelude.{flat_map}
use Rattle.written_texts.specs.NumberText.{spaced_value}
use Rattle.avida_program.proofs.trace_line.push_values.Given as goal

abbrev pub invariant-loop-value : goal.invariant-loop-value
invariant-loop-value l = record {
  items : l.piece.items ≡ l.fn.piece.items ++ flat_map spaced_value (take l.value-index l.values);
  len : length l.piece.items ≤ length l.fn.piece.items + 12 * l.value-index;
}
