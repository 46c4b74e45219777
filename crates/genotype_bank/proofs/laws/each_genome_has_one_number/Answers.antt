use Rattle.genotype_bank.proofs.DifferentLemmas.{one_number}
use Rattle.genotype_bank.proofs.laws.each_genome_has_one_number.Goals as goal

pub returns : goal.returns
returns c = one_number c.one_index.ensures.list
