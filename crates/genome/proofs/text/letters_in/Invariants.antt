-- The letters so far are kept, and there is room for the rest.
use Rattle.std.proofs.Common.{◌≡◌, ◌+◌, ◌-◌, ◌≤◌, take, length, vec_len, vec_capacity}
use Rattle.std.specs.Prelude.{filter_map}
use Rattle.instruction_set.specs.Letter.{letter_of_byte}
use Rattle.genome.proofs.text.letters_in.Given as goal

abbrev pub invariant-loop-byte : goal.invariant-loop-byte
invariant-loop-byte l = record {
  kept : l.letters.items ≡ filter_map letter_of_byte (take l.byte-index l.text);
  room : vec_len l.letters + (length l.text - l.byte-index) ≤ vec_capacity l.letters;
}
