use Rattle.genotype_bank.proofs.packing.+append_letters.Given as goal

abbrev pub decreases-append_letters : goal.decreases-append_letters
decreases-append_letters l = l.most
