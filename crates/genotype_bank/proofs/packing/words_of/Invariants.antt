-- The letters so far are packed.
use Rattle.std.proofs.Common.{◌≡◌, take}
use Rattle.genotype_bank.proofs.Prelude.{packing, packing_of}
use Rattle.genotype_bank.proofs.packing.words_of.Given as goal

abbrev pub invariant-loop-letter : goal.invariant-loop-letter
invariant-loop-letter l =
    packing l.words.items l.last ≡ packing_of (take l.letter-index l.letters)
