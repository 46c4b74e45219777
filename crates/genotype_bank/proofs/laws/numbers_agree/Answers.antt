use Rattle.genotype_bank.proofs.DifferentLemmas.{numbers_agree}
use Rattle.genotype_bank.proofs.laws.numbers_agree.Goals as goal

pub returns : goal.returns
returns c = numbers_agree c.one_index.ensures.list
