use Rattle.std.proofs.Common.{◌∙◌, sym}
use Rattle.world_core.proofs.KeptOfLemmas.{IsKeptOf-none}
use Rattle.world_core.proofs.population.Population.none.Goals as goal

pub invariant_of-result : goal.invariant_of-result
invariant_of-result c =
    IsKeptOf-none c.args.cells _ _ _ _ c.in_ok-none.ensures c.in_ok-none-2.ensures
    (sym c.in_ok-vec.field-0.ok.0 ∙ c.in_ok-vec.ensures.len) c.start.ensures c.requires
