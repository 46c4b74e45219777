use Rattle.genome.proofs.EqualLemmas.{genome_eq}
use Rattle.genome.proofs.laws.equal_by_letters.Goals as goal

pub returns : goal.returns
returns c = genome_eq c.one_index.ensures.list
