-- The letters of the words so far.
use Rattle.std.proofs.Common.{◌≡◌, take}
use Rattle.genotype_bank.proofs.Prelude.{unpacked}
use Rattle.genotype_bank.proofs.packing.letters_in_words.Given as goal

abbrev pub invariant-loop-word : goal.invariant-loop-word
invariant-loop-word l = l.letters.items ≡ unpacked (take l.word-index l.words)
