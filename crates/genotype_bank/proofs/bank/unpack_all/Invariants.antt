use Rattle.std.proofs.Common.{◌≡◌, ◌++◌, map}
use Rattle.genotype_bank.proofs.Prelude.{letters, letters_in}
use Rattle.genotype_bank.proofs.bank.unpack_all.Given as goal

abbrev pub invariant-loop-genome : goal.invariant-loop-genome
invariant-loop-genome l =
    map letters l.genomes.items ++ letters_in l.genome-iterator ≡ letters_in l.kept.keys
