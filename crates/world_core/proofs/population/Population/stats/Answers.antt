use Rattle.std.proofs.Common.{◌∙◌, ap, List, Option}
use Rattle.world_core.proofs.Prelude.{all_tasks, Occupant, credited_with, genomes_of_cells, stats_in, PopulationValue, map_same}
use Rattle.world_core.proofs.StatLemmas.{living-in, merits-in, credited-in, genotype-number}
use Rattle.world_core.proofs.SumLemmas.{cells_with}
use Rattle.world_core.proofs.population.Population.stats.Goals as goal

pub returns : goal.returns
unfolding stats_in
returns c =
    let cells : List (Option Occupant) = c.self.inside.cells in
    let kept = c.self.invariant in
    let living = c.living.ensures ∙ kept.genotypes.living ∙ living-in cells in
    let genotypes = c.genotypes.ensures.count
    ∙ genotype-number c.one_index.ensures.list cells c.self.inside.genotypes
    c.self.inside.keys.items c.self.inside.census.genotypes c.genotypes.ensures.genotypes
    kept.genotypes (c.genotypes_are_what_was_interned.ensures.each (genomes_of_cells cells)) in
    let merit = c.merit.ensures ∙ kept.sums.merit_sum ∙ merits-in cells in
    let tasks = c.tasks.ensures ∙ kept.sums.task_counts
    ∙ map_same (cells_with cells) (credited_with cells) (credited-in cells) all_tasks in
    (λ i. record {
      update = c.args.update;
      living = living i;
      births = c.args.births;
      deaths = c.args.deaths;
      genotypes = genotypes i;
      merit = merit i;
      tasks = tasks i;
    })
    ∙ ap (λ (population : PopulationValue). stats_in c.args.update population.cells c.args.births
    c.args.deaths) c.self.view_is
