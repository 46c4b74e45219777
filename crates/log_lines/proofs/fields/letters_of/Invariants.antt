use Rattle.std.proofs.Common.{◌≡◌, ◌+◌, ◌-◌, ◌≤◌, ◌++◌, drop, length, vec_len, vec_capacity}
use Rattle.std.specs.Prelude.{None, if◌then◌else◌, option_map}
use Rattle.log_lines.proofs.Prelude.{letter_of_byte, each}
use Rattle.log_lines.proofs.fields.letters_of.Given as goal

abbrev pub invariant-loop-byte : goal.invariant-loop-byte
invariant-loop-byte l = record {
  read : each letter_of_byte l.word ≡ (if l.are_all
      then option_map (λ others. l.letters.items ++ others)
      (each letter_of_byte (drop l.byte-index l.word)) else None);
  room : vec_len l.letters + (length l.word - l.byte-index) ≤ vec_capacity l.letters;
}
