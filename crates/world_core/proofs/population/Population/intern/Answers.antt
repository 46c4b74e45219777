use Rattle.world_core.proofs.Prelude.{letters}
use Rattle.world_core.proofs.KeptOfLemmas.{IsKeptOf-interned}
use Rattle.world_core.proofs.population.Population.intern.Goals as goal

pub invariant_of-self : goal.invariant_of-self
invariant_of-self g c =
    IsKeptOf-interned c.one_index.ensures.list c.self.inside.cells c.self.inside.genotypes
    c.intern.new.self c.self.inside.keys.items c.self.inside.census (letters c.args.genome)
    c.intern.result c.intern.ensures.ok c.intern.ensures.err c.intern.ensures.different
    c.self.invariant
