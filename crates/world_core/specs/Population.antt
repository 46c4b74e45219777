-- What is kept of the living beside their cells, and who stands in each cell, where organisms and
-- ids are kept apart (docs/WORLD.md, "Statistics"; docs/ARCHITECTURE.md, "Shards").
use Rattle.std.specs.Prelude.{◌≡◌, ℕ, List, length, map, Option, ◌⊎◌, ◌≤◌, ◌^◌, Bool, false, All, None, Some, option_map, count_by, is_some, slice_get, slice_index, slice_index_or}
use Rattle.world_core.specs.Prelude.{zip, sum_by, standing_in, OrganismState, with_id, merit_in, Occupant, CanRemove, CanRenew, HasOneFewer, count_under, with_renewal, Counts, GenotypeCount, genotype_at, living_of, Letter}
use Rattle.cell_shards.specs.declared.standing.Standing.{Standing}
use Rattle.instruction_set.specs.Letter.{same_letters}
use Rattle.logic_tasks.specs.declared.task.Task.{Task}
use Rattle.logic_tasks.specs.LogicTasks.{all_tasks, has_task}

-- who stands in each cell, by the organisms and the ids of the cells
abbrev pub occupants_of : List (Option OrganismState) → List ℕ → List (Option Occupant)
occupants_of organisms ids = map (λ place. with_id place.1 place.0) (zip organisms ids)

-- beside the organism of each cell are kept an id and what is counted of it
pub record AreKeptBeside (organisms : List (Option OrganismState)) (ids : List ℕ)
    (standings : List (Option Standing)) : Type 0 where
  pub long : length ids ≡ length organisms
  pub counted : standings ≡ map standing_in organisms

-- who stands in each cell, and the genomes of the bank, each at the place that is its number
pub record PopulationValue : Type 0 where
  pub cells : List (Option Occupant)
  pub bank : List (List Letter)

-- each of these genomes stands once, so that its place is its number
abbrev pub AreDifferent : List (List Letter) → Type 0
AreDifferent genomes =
    (number other : ℕ) (genome : List Letter)
    → slice_get genomes number ≡ Some genome → slice_get genomes other ≡ Some genome
    → number ≡ other

-- the genome that stands in a cell
abbrev pub occupant_genome : Option Occupant → Option (List Letter)
occupant_genome slot = option_map (λ o. o.organism.genome) slot

-- the genome that stands in each cell
abbrev pub occupant_genomes : List (Option Occupant) → List (Option (List Letter))
occupant_genomes cells = map occupant_genome cells

-- whether this genome stands there
abbrev pub is_genome : List Letter → Option (List Letter) → Bool
is_genome genome None = false
is_genome genome (Some other) = same_letters genome other

-- whether who stands in a cell has a task in its credited set
abbrev pub is_credited : Task → Option Occupant → Bool
is_credited task None = false
is_credited task (Some o) = has_task o.organism.credited task

-- under a genome's number is counted in how many cells it stands, and a cell's key is that number
pub record AreCountedIn (standing : List (Option (List Letter))) (genomes : List (List Letter))
    (keys : List ℕ) (genotypes : List (ℕ × GenotypeCount)) : Type 0 where
  pub size : length keys ≡ length standing
  pub keyed : (cell : ℕ) (genome : List Letter)
      → slice_index_or standing cell None ≡ Some genome
      → slice_get genomes (slice_index keys cell) ≡ Some genome
  pub named : (number : ℕ) (genotype : GenotypeCount)
      → genotype_at genotypes number ≡ Some genotype
      → slice_get genomes number ≡ Some genotype.genome
  pub counted : (number : ℕ) (genome : List Letter)
      → slice_get genomes number ≡ Some genome
      → count_under genotypes number ≡ count_by (is_genome genome) standing
  pub living : living_of genotypes ≡ count_by is_some standing

-- the sum of the merits, and for each task how many have it; cells and merits are bounded
pub record AreSummedIn (cells : List (Option Occupant)) (merit : ℕ) (tasks : List ℕ) : Type 0 where
  pub few : length cells ≤ 65536
  pub fits : All (λ slot. merit_in slot ≤ 2 ^ 38) cells
  pub merit_sum : merit ≡ sum_by merit_in cells
  pub task_counts : tasks ≡ map (λ task. count_by (is_credited task) cells) all_tasks

-- what is kept is that of who stands in these cells
pub record IsKeptOf (cells : List (Option Occupant)) (genomes : List (List Letter))
    (keys : List ℕ) (counts : Counts) : Type 0 where
  pub different : AreDifferent genomes
  pub genotypes : AreCountedIn (occupant_genomes cells) genomes keys counts.genotypes
  pub sums : AreSummedIn cells counts.merit counts.tasks

-- the merit that counts in a cell, 0 where nobody stands
abbrev pub merit_or_zero : Option Standing → ℕ
merit_or_zero None = 0
merit_or_zero (Some one) = one.merit

-- who stood in a cell with this key may be counted as who stands there now
abbrev pub CanCountChange : Counts → ℕ → Option Standing → Option Standing → Type 0
CanCountChange counts key None now = Unit {0}
CanCountChange counts key (Some was) None = CanRemove counts key was.merit was.credited
CanCountChange counts key (Some was) (Some now) =
    CanRenew counts was.merit was.credited (2 ^ 38) × (now.merit ≤ 2 ^ 38)

-- an organism is counted with the merit and the credited set that it has now
abbrev pub IsRenewed : Counts → Counts → Standing → Standing → Type 0
IsRenewed before after was now =
    (after ≡ with_renewal before was.merit was.credited now.merit now.credited)
    ⊎ ((after ≡ before) × (now.merit ≡ was.merit) × (now.credited ≡ was.credited))

-- who stood in a cell is counted as who stands there now: nobody, or the same one after its life
abbrev pub CountsChange : Counts → Counts → ℕ → Option Standing → Option Standing → Type 0
CountsChange before after key None now = after ≡ before
CountsChange before after key (Some was) None = HasOneFewer before after key was.merit was.credited
CountsChange before after key (Some was) (Some now) = IsRenewed before after was now
