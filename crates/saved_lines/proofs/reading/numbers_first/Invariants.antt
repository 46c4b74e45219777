-- The numbers so far are read, and what is left gives the others.
use Rattle.std.proofs.Common.{◌≡◌, take, drop, length}
use Rattle.std.specs.Prelude.{option_copied}
use Rattle.saved_lines.proofs.Prelude.{words_of, read_within}
use Rattle.saved_lines.proofs.ItemLemmas.{behind}
use Rattle.saved_lines.proofs.reading.numbers_first.Given as goal

abbrev pub invariant-loop-at : goal.invariant-loop-at
invariant-loop-at g l = record {
  read : behind (take l.at l.numbers)
      (read_within (drop l.at l.ranges) (words_of (option_copied l.left)))
      ≡ read_within l.ranges (words_of (option_copied l.rest));
  long : length l.numbers ≡ g.row.N;
}
