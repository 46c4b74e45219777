-- What is counted after an update, anew from the cells (docs/WORLD.md, "Statistics"). For example,
-- if three organisms live, two with one genome and one with another, there are two genotypes, and
-- the first is dominant with a count of 2.
use Rattle.std.specs.Prelude.{ℕ, zero, suc, List, length, map, Option, option_map}
use Rattle.world_rules.specs.Prelude.{filter_map, count_by, sum_by, Letter, GenotypeCount, dominant_among, all_tasks, has_task, OrganismState, ConfigValues}
use Rattle.instruction_set.specs.Letter.{same_letters}
use Rattle.genome.specs.Genome.{different_of}
use Rattle.logic_tasks.specs.declared.task.Task.{Task}
use Rattle.log_lines.specs.declared.stats.Stats.{Stats}
use Rattle.lineage_log.specs.Reader.{taken}
use Rattle.world_rules.specs.World.{Occupant, World, ids_of, Scene}
use Rattle.world_rules.specs.Update.{births_of, lives_after, next_scene}
use Rattle.world_rules.specs.WorldRun.{world_after}

-- the organism in a place
abbrev pub organism_in : Option Occupant → Option OrganismState
organism_in slot = option_map (λ o. o.organism) slot

-- the living organisms, in the order of their cells
abbrev pub organisms_in : List (Option Occupant) → List OrganismState
organisms_in cells = filter_map organism_in cells

-- their genomes
abbrev pub genomes_of_cells : List (Option Occupant) → List (List Letter)
genomes_of_cells cells = map (λ o. o.genome) (organisms_in cells)

-- how many of the living have a task in their credited set
abbrev pub credited_with : List (Option Occupant) → Task → ℕ
credited_with cells task = count_by (λ o. has_task o.credited task) (organisms_in cells)

-- what is counted in the cells after an update of so many births and deaths
unfoldable pub stats_in : ℕ → List (Option Occupant) → ℕ → ℕ → Stats
stats_in update cells births deaths = record {
  update = update;
  living = taken (ids_of cells);
  births = births;
  deaths = deaths;
  genotypes = length (different_of (genomes_of_cells cells));
  merit = sum_by (λ o. o.merit) (organisms_in cells);
  tasks = map (credited_with cells) all_tasks;
}

-- what is counted of the scene at the end of an update, in which so many were born
abbrev pub scene_stats : Scene → ℕ → Stats
scene_stats scene births = stats_in scene.update scene.cells births (length scene.gone)

-- what is counted after the update that follows a world
unfoldable pub next_stats : ConfigValues → World → Stats
next_stats config w = scene_stats (next_scene config w) (length (births_of (lives_after config w)))

-- what is counted after so many updates; before the first there was no birth and no death
unfoldable pub stats_of : ConfigValues → ℕ → Stats
stats_of config zero = stats_in 0 (world_after config 0).cells 0 0
stats_of config (suc n) = next_stats config (world_after config n)

-- a genome, and how many of these are the same
abbrev pub counted_in : List (List Letter) → List Letter → GenotypeCount
counted_in genomes genome =
    record { genome = genome; count = count_by (same_letters genome) genomes }

-- the genome that most of the living have, and of equally frequent ones the least, with its count
unfoldable pub dominant_of : List (Option Occupant) → Option GenotypeCount
dominant_of cells =
    let genomes = genomes_of_cells cells in
    dominant_among (map (counted_in genomes) genomes)
