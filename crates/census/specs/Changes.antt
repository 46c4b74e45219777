-- How the counts change by one organism (docs/WORLD.md, "Statistics").
use Rattle.std.specs.Prelude.{◌≡◌, ◌+◌, ◌-◌, ◌==◌, ◌<◌, ◌≤◌, ◌^◌, ℕ, Bool, true, List, [], Option, None, Some, IsSome, All, map, nat_lt, slice_index, if◌then◌else◌}
use Rattle.std.specs.Int.{from_bool}
use Rattle.std.specs.Option.{option_map, unwrap_or}
use Rattle.instruction_set.specs.declared.letter.Letter.{Letter}
use Rattle.logic_tasks.specs.declared.task.Task.{Task}
use Rattle.logic_tasks.specs.LogicTasks.{all_tasks, task_place, has_task}
use Rattle.census.specs.Counts.{GenotypeCount, Counts, genotype_at, living_of}

-- how many organisms are counted under a key
abbrev pub count_under : List (ℕ × GenotypeCount) → ℕ → ℕ
count_under genotypes key =
    unwrap_or (option_map (λ genotype. genotype.count) (genotype_at genotypes key)) 0

-- the genome under a key
abbrev pub genome_under : List (ℕ × GenotypeCount) → ℕ → List Letter
genome_under genotypes key =
    unwrap_or (option_map (λ genotype. genotype.genome) (genotype_at genotypes key)) []

-- what is under a key once an organism goes, where others stay
abbrev pub lowered : List (ℕ × GenotypeCount) → ℕ → GenotypeCount
lowered genotypes key =
    record { genome = genome_under genotypes key; count = count_under genotypes key - 1 }

-- what is under a key once one organism more has the genome under another
abbrev pub genotype_with_one : List (ℕ × GenotypeCount) → ℕ → List Letter → ℕ → Option GenotypeCount
genotype_with_one genotypes key genome other =
    if key == other then Some (record { genome = genome; count = count_under genotypes key + 1 })
    else genotype_at genotypes other

-- what is under a key once the genome under another has one organism fewer; with its last it goes
abbrev pub genotype_without_one : List (ℕ × GenotypeCount) → ℕ → ℕ → Option GenotypeCount
genotype_without_one genotypes key other =
    if key == other
    then (if nat_lt 1 (count_under genotypes key) then Some (lowered genotypes key) else None)
    else genotype_at genotypes other

-- one more has each task of a set
abbrev pub tasks_with : List ℕ → List Bool → List ℕ
tasks_with counts credited = map (λ task.
    slice_index counts (task_place task) + from_bool (has_task credited task)) all_tasks

-- one fewer has each task of a set
abbrev pub tasks_without : List ℕ → List Bool → List ℕ
tasks_without counts credited = map (λ task.
    slice_index counts (task_place task) - from_bool (has_task credited task)) all_tasks

-- each task of a set is counted
abbrev pub AreCounted : List ℕ → List Bool → Type 0
AreCounted counts credited =
    (task : Task) → has_task credited task ≡ true → 0 < slice_index counts (task_place task)

-- one organism more is counted
pub record HasOneMore (before after : Counts) (key : ℕ) (genome : List Letter) (merit : ℕ)
    (credited : List Bool) : Type 0 where
  pub under : (other : ℕ) → genotype_at after.genotypes other
      ≡ genotype_with_one before.genotypes key genome other
  pub living : living_of after.genotypes ≡ living_of before.genotypes + 1
  pub merits : after.merit ≡ before.merit + merit
  pub tasks : after.tasks ≡ tasks_with before.tasks credited

-- one organism fewer is counted
pub record HasOneFewer (before after : Counts) (key merit : ℕ) (credited : List Bool) : Type 0 where
  pub under : (other : ℕ) → genotype_at after.genotypes other
      ≡ genotype_without_one before.genotypes key other
  pub living : living_of after.genotypes + 1 ≡ living_of before.genotypes
  pub merits : after.merit ≡ before.merit - merit
  pub tasks : after.tasks ≡ tasks_without before.tasks credited

-- an organism that is counted has another merit and credited set
abbrev pub with_renewal : Counts → ℕ → List Bool → ℕ → List Bool → Counts
with_renewal counts merit credited next_merit next_credited = record counts {
  merit = counts.merit - merit + next_merit;
  tasks = tasks_with (tasks_without counts.tasks credited) next_credited;
}

-- the key and the genome belong to each other, and the counts have room for one organism more
pub record CanAdd (counts : Counts) (key : ℕ) (genome : List Letter) (merit : ℕ) : Type 0 where
  pub one_genome : (genotype : GenotypeCount)
      → genotype_at counts.genotypes key ≡ Some genotype → genotype.genome ≡ genome
  pub one_key : (other : ℕ) (genotype : GenotypeCount)
      → genotype_at counts.genotypes other ≡ Some genotype → genotype.genome ≡ genome
      → other ≡ key
  pub living : living_of counts.genotypes < 2 ^ 32
  pub merits : counts.merit + merit < 2 ^ 55
  pub tasks : All (λ count. count < 2 ^ 32) counts.tasks

-- an organism with this key, merit and credited set may be among those that are counted
pub record CanRemove (counts : Counts) (key merit : ℕ) (credited : List Bool) : Type 0 where
  pub counted : IsSome (genotype_at counts.genotypes key)
  pub merits : merit ≤ counts.merit
  pub tasks : AreCounted counts.tasks credited

-- an organism with this merit and set may be counted, and there is room for its next merit
pub record CanRenew (counts : Counts) (merit : ℕ) (credited : List Bool) (next_merit : ℕ) : Type 0
  where
    pub counted : merit ≤ counts.merit
    pub room : counts.merit + next_merit < 2 ^ 55
    pub tasks : AreCounted counts.tasks credited
    pub few : All (λ count. count < 2 ^ 32) counts.tasks
