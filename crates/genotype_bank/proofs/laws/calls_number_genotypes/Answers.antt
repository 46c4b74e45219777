use Rattle.genotype_bank.proofs.CallLemmas.{MakesCall-begins}
use Rattle.genotype_bank.proofs.DifferentLemmas.{different_of-begins, genotypes_of_push, genotypes_of-begins, length-with_genome}
use Rattle.genotype_bank.proofs.laws.calls_number_genotypes.Goals as goal

pub returns-clause-call : goal.returns-clause-call
returns-clause-call c = genotypes_of_push c.one_index.ensures.list

pub returns-clause-stay : goal.returns-clause-stay
returns-clause-stay c = genotypes_of-begins c.one_index.ensures.list

pub returns-clause-fronts : goal.returns-clause-fronts
returns-clause-fronts c = different_of-begins c.one_index.ensures.list

pub returns-clause-seen : goal.returns-clause-seen
returns-clause-seen c = MakesCall-begins

pub returns-clause-count : goal.returns-clause-count
returns-clause-count c = length-with_genome c.one_index.ensures.list
