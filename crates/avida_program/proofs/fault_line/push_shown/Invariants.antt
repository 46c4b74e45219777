-- The bytes so far are pushed.
use Rattle.std.proofs.Common.{◌≡◌, ◌+◌, ◌++◌, length, map, take}
use Rattle.avida_program.proofs.Prelude.{shown_byte}
use Rattle.avida_program.proofs.fault_line.push_shown.Given as goal

abbrev pub invariant-loop-byte : goal.invariant-loop-byte
invariant-loop-byte l = record {
  items : l.line.items ≡ l.fn.line.items ++ map shown_byte (take l.byte-index l.bytes);
  len : length l.line.items ≡ length l.fn.line.items + l.byte-index;
}
