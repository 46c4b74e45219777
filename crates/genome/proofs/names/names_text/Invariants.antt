-- The lines so far are appended.
use Rattle.std.proofs.Common.{◌≡◌, ◌++◌, take, length}
use Rattle.genome.specs.GenomeText.{names_text_of}
use Rattle.genome.proofs.names.names_text.Given as goal

abbrev pub invariant-loop-letter : goal.invariant-loop-letter
invariant-loop-letter l = record {
  appended : l.out.items ≡ l.fn.out.items ++ names_text_of (take l.letter-index l.letter-items);
  before : l.before ≡ length l.fn.out.items;
}
