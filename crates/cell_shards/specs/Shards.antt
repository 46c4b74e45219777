-- How a row of cells is cut into shards, one for each worker (docs/ARCHITECTURE.md, "Shards"). For
-- example, with 10 cells and 3 workers the shards have the cells 0 to 2, 3 to 5 and 6 to 9. A world
-- cuts the load of its cells in the same way.
use Rattle.std.specs.Prelude.{◌≡◌, ℕ, ◌∷◌, List, Option, Some, length, slice_get, slice_index, ◌+◌, ◌*◌, ◌/◌, ◌<◌, ◌≤◌}
use mathlib.Core.Option.{some}
use lib.ListN.{get_elem?}
use Rattle.atomic_table.specs.Seated.{TableId}
use Rattle.atomic_table.specs.Table.{Me, State, Step}
use Rattle.cell_shards.specs.declared.job.Job.{Job}

-- a pool, or a seat at it: which table it is, and all jobs that were put there
pub record PoolValue : Type 0 where
  pub table : TableId
  pub jobs : List Job

-- each job that nobody has taken lies in its slot, and each seat knows all jobs
pub record IsPool (jobs : List Job) (s : State (Option Job) (List Job)) : Type 0 where
  pub words : length s.words ≡ length jobs
  pub seats : (seat : ℕ) (known : List Job) → get_elem? s.views seat ≡ some known → known ≡ jobs
  pub free : (number : ℕ) (job : Job) → slice_index s.words number ≡ 0
      → slice_get jobs number ≡ Some job → get_elem? s.homes number ≡ some (some (Some job))

-- a seat asks for a job: where its word was 0, the job is out with the seat
abbrev pub HasAsked : Step (Option Job) → Me (Option Job) (List Job) → ℕ
    → Me (Option Job) (List Job) → Type 0
HasAsked asked before found after =
    (after.0 ≡ before.0)
    × ((job : Job) → slice_get before.0 asked.word ≡ Some job → found ≡ 0
    → after.1 ≡ (asked.word, Some job) ∷ before.1)

-- the first cell of a shard; behind the last shard, the number of cells
abbrev pub first_cell : ℕ → ℕ → ℕ → ℕ
first_cell cells workers shard = cells * shard / workers

-- a shard has the cells from the first number up to, and without, the second
abbrev pub bounds_of : ℕ → ℕ → ℕ → ℕ × ℕ
bounds_of cells workers shard =
    (first_cell cells workers shard, first_cell cells workers (shard + 1))

-- a cell is in a shard
pub record IsInShard (cells workers shard cell : ℕ) : Type 0 where
  pub from : first_cell cells workers shard ≤ cell
  pub before : cell < first_cell cells workers (shard + 1)
