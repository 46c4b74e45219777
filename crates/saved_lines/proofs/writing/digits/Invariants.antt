-- The digits so far are appended, and there is room for the rest.
use Rattle.std.proofs.Common.{◌≡◌, ◌++◌, ◌+◌, ◌-◌, ◌≤◌, map, take, length, vec_len, vec_capacity}
use Rattle.saved_lines.proofs.Prelude.{digit_of}
use Rattle.saved_lines.proofs.writing.digits.Given as goal

abbrev pub invariant-loop-place : goal.invariant-loop-place
invariant-loop-place l = record {
  appended : l.out.items ≡ l.initial.out.items ++ map digit_of (take l.place-index l.places);
  room : vec_len l.out + (length l.places - l.place-index) ≤ vec_capacity l.out;
}
