-- The letters so far are appended, and there is room for the rest.
use Rattle.std.proofs.Common.{◌≡◌, ◌++◌, ◌+◌, ◌-◌, ◌≤◌, map, take, length, vec_len, vec_capacity}
use Rattle.saved_lines.proofs.Prelude.{byte_of}
use Rattle.saved_lines.proofs.writing.spelled.Given as goal

abbrev pub invariant-loop-letter : goal.invariant-loop-letter
invariant-loop-letter l = record {
  appended : l.out.items ≡ l.initial.out.items ++ map byte_of (take l.letter-index l.letters);
  room : vec_len l.out + (length l.letters - l.letter-index) ≤ vec_capacity l.out;
}
