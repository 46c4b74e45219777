use Rattle.genotype_bank.proofs.DifferentLemmas.{HasEachOnce-different_of, HasEachOnce-genotypes_of, HasEachOnce-with_genome}
use Rattle.genotype_bank.proofs.laws.genotypes_are_what_was_interned.Goals as goal

pub returns-clause-each : goal.returns-clause-each
returns-clause-each c = HasEachOnce-different_of c.one_index.ensures.list

pub returns-clause-calls : goal.returns-clause-calls
returns-clause-calls c = HasEachOnce-genotypes_of c.one_index.ensures.list

pub returns-clause-one_more : goal.returns-clause-one_more
returns-clause-one_more c = HasEachOnce-with_genome c.one_index.ensures.list
