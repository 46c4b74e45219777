-- The marks so far are read, and there is room for the rest.
use Rattle.std.proofs.Common.{◌≡◌, ◌+◌, ◌-◌, ◌≤◌, ◌++◌, drop, length, vec_len, vec_capacity}
use Rattle.std.specs.Prelude.{option_map}
use Rattle.saved_lines.proofs.Prelude.{each, mark_of}
use Rattle.saved_lines.proofs.fields.marks_of.Given as goal

abbrev pub invariant-loop-byte : goal.invariant-loop-byte
invariant-loop-byte l = record {
  read : option_map (λ others. l.marks.items ++ others)
      (each mark_of (drop l.byte-index l.word)) ≡ each mark_of l.word;
  room : vec_len l.marks + (length l.word - l.byte-index) ≤ vec_capacity l.marks;
}
