-- The numbers so far are read, and what is left gives the others.
use Rattle.std.proofs.Common.{◌≡◌, ◌-◌, take, length}
use Rattle.std.specs.Prelude.{option_copied}
use Rattle.saved_lines.proofs.Prelude.{words_of, signed, read_several}
use Rattle.saved_lines.proofs.ItemLemmas.{behind}
use Rattle.saved_lines.proofs.reading.signed_first.Given as goal

abbrev pub invariant-loop-at : goal.invariant-loop-at
invariant-loop-at g l = record {
  read : behind (take l.at l.numbers)
      (read_several signed.read (g.row.N - l.at) (words_of (option_copied l.left)))
      ≡ read_several signed.read g.row.N (words_of (option_copied l.rest));
  long : length l.numbers ≡ g.row.N;
}
