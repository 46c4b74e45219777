use Rattle.std.proofs.Common.{◌∙◌, ap}
use Rattle.world_core.proofs.Prelude.{IfOk-weaker, dominant_of, PopulationValue}
use Rattle.world_core.proofs.StatLemmas.{same-members}
use Rattle.world_core.proofs.population.Population.dominant.Goals as goal

pub returns : goal.returns
unfolding dominant_of
returns c =
    let kept = c.self.invariant in
    let members = same-members c.one_index.ensures.list c.self.inside.cells c.self.inside.genotypes
    c.self.inside.keys.items c.self.inside.census.genotypes c.dominant.ensures.genotypes
    kept.genotypes in
    let same = c.dominance_knows_no_order.ensures _ _ members
    ∙ ap (λ (population : PopulationValue). dominant_of population.cells) c.self.view_is in
    IfOk-weaker c.dominant.result _ _ (λ found is. is ∙ same) c.dominant.ensures.dominant
