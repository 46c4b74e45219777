-- The sums over the cells, as one of them changes.
use Rattle.std.proofs.Common.{◌≡◌, ◌∙◌, refl, sym, ap, ℕ, ◌+◌, ◌-◌, ◌*◌, ◌<◌, ◌≤◌, ◌^◌, Bool, true, false, cond, List, length, map, set, get_or, Option, Some, None, replicate, get_or-set_same, lt-length-set, set-set, arith}
use Rattle.std.specs.Prelude.{slice_index}
use Rattle.world_core.proofs.Prelude.{All, count_by, length-set, length-replicate, All-map, All-replicate, All-same, All-set, sum_by-replicate, sum_by-set, sum_by-le, get_or-le-sum_by, count_by-le-length, AreCounted, CanRenew, tasks_with, tasks_without, GenotypeCount, Task, all_tasks, task_place, has_task, Occupant, merit_in, AreSummedIn, is_credited, map_same}
use Rattle.std.specs.Int.{from_bool}
use Rattle.logic_tasks.specs.declared.task.Task.TheVariants.{Not}

-- what stands at the place of a task in a list of one number a task
pub at_task : (f : Task → ℕ) (task : Task)
    → slice_index (map f all_tasks) (task_place task) ≡ f task
at_task f Not = refl
at_task f _ = refl

-- one where the test holds
abbrev pub one : Bool → ℕ
one b = cond b 1 0

-- a test as a number
from_bool-one : (b : Bool) → from_bool b ≡ one b
from_bool-one true = refl
from_bool-one false = refl

-- the cells with a task
abbrev pub cells_with : List (Option Occupant) → Task → ℕ
cells_with cells task = count_by (is_credited task) cells

-- how many have one task
pub task_sum : (cells : List (Option Occupant)) (merit : ℕ) (tasks : List ℕ)
    → AreSummedIn cells merit tasks → (task : Task)
    → slice_index tasks (task_place task) ≡ cells_with cells task
task_sum cells merit tasks are task =
    ap (λ ts. slice_index ts (task_place task)) are.task_counts ∙ at_task (cells_with cells) task

-- nobody stands anywhere
pub AreSummedIn-none : (n : ℕ) → n ≤ 65536 → AreSummedIn (replicate n None) 0 (replicate 9 0)
AreSummedIn-none n few = record {
  few = omega (arith, few, length-replicate {A = Option Occupant} n None);
  fits = All-replicate (λ slot. merit_in slot ≤ 2 ^ 38) n None (omega arith);
  merit_sum = omega (arith, sum_by-replicate merit_in n None);
  task_counts = sym (map_same (cells_with (replicate n None)) (λ task. 0)
      (λ task. omega (arith, sum_by-replicate (λ slot. one (is_credited task slot)) n None))
      all_tasks);
}

-- one cell has changed
pub AreSummedIn-set : (cells : List (Option Occupant)) (cell : ℕ) (slot : Option Occupant)
    (merit next_merit : ℕ) (tasks next_tasks : List ℕ) (f : Task → ℕ) → cell < length cells
    → merit_in slot ≤ 2 ^ 38 → AreSummedIn cells merit tasks
    → next_merit + merit_in (get_or cells cell None) ≡ merit + merit_in slot
    → next_tasks ≡ map f all_tasks
    → ((task : Task) → f task + one (is_credited task (get_or cells cell None))
    ≡ cells_with cells task + one (is_credited task slot))
    → AreSummedIn (set cells cell slot) next_merit next_tasks
AreSummedIn-set cells cell slot merit next_merit tasks next_tasks f within fits are sum list each =
    record {
      few = omega (arith, are.few, length-set cells cell slot);
      fits = All-set (λ slot. merit_in slot ≤ 2 ^ 38) cells cell slot fits are.fits;
      merit_sum =
          omega (arith, sum, are.merit_sum, sum_by-set merit_in cells cell slot None within);
      task_counts = list ∙ map_same f (cells_with (set cells cell slot))
          (λ task. omega (
            arith,
            each task,
            sum_by-set (λ slot. one (is_credited task slot)) cells cell slot None within,
          )) all_tasks;
    }

-- who stands in a cell is in the sums
pub credited-counted : (cells : List (Option Occupant)) (cell : ℕ) (o : Occupant) (merit : ℕ)
    (tasks : List ℕ) → cell < length cells → get_or cells cell None ≡ Some o
    → AreSummedIn cells merit tasks → AreCounted tasks o.organism.credited
credited-counted cells cell o merit tasks within here are task has =
    omega (
      arith,
      task_sum cells merit tasks are task,
      get_or-le-sum_by (λ slot. one (is_credited task slot)) cells cell None within,
      ap one (ap (is_credited task) here ∙ has),
    )

-- a merit is part of the sum
pub merit-counted : (cells : List (Option Occupant)) (cell : ℕ) (o : Occupant) (merit : ℕ)
    (tasks : List ℕ) → cell < length cells → get_or cells cell None ≡ Some o
    → AreSummedIn cells merit tasks → o.organism.merit ≤ merit
merit-counted cells cell o merit tasks within here are =
    omega (arith, are.merit_sum, get_or-le-sum_by merit_in cells cell None within, ap merit_in here)

-- the sums have room for one organism more
pub merit-room : (cells : List (Option Occupant)) (merit : ℕ) (tasks : List ℕ)
    → AreSummedIn cells merit tasks → merit ≤ 65536 * 2 ^ 38
merit-room cells merit tasks are =
    omega (arith, are.merit_sum, are.few, sum_by-le merit_in (2 ^ 38) cells are.fits)

-- and so have the counts of tasks
pub tasks-room : (cells : List (Option Occupant)) (merit : ℕ) (tasks : List ℕ)
    → AreSummedIn cells merit tasks → All (λ count. count < 2 ^ 32) tasks
tasks-room cells merit tasks are =
    All-same (λ count. count < 2 ^ 32) tasks (map (cells_with cells) all_tasks) are.task_counts
    (All-map (λ count. count < 2 ^ 32) (cells_with cells) all_tasks
    (λ k task within. omega (
      arith,
      are.few,
      count_by-le-length (is_credited (get_or all_tasks k task)) cells,
    )))

-- an organism may have another merit and credited set
pub can-renew : (cells : List (Option Occupant)) (cell : ℕ) (o : Occupant) (merit : ℕ)
    (tasks : List ℕ) (genotypes : List (ℕ × GenotypeCount)) → cell < length cells
    → get_or cells cell None ≡ Some o → AreSummedIn cells merit tasks
    → CanRenew (record { genotypes = genotypes; merit = merit; tasks = tasks }) o.organism.merit
    o.organism.credited (2 ^ 38)
can-renew cells cell o merit tasks genotypes within here are = record {
  counted = merit-counted cells cell o merit tasks within here are;
  room = omega (arith, merit-room cells merit tasks are);
  tasks = credited-counted cells cell o merit tasks within here are;
  few = tasks-room cells merit tasks are;
}

-- an organism goes
pub AreSummedIn-removed : (cells : List (Option Occupant)) (cell : ℕ) (o : Occupant) (merit : ℕ)
    (tasks : List ℕ) → cell < length cells → get_or cells cell None ≡ Some o
    → AreSummedIn cells merit tasks
    → AreSummedIn (set cells cell None) (merit - o.organism.merit)
    (tasks_without tasks o.organism.credited)
AreSummedIn-removed cells cell o merit tasks within here are =
    AreSummedIn-set cells cell None merit _ tasks _
    (λ task. slice_index tasks (task_place task) - from_bool (has_task o.organism.credited task))
    within (omega arith) are
    (omega (arith, merit-counted cells cell o merit tasks within here are, ap merit_in here)) refl
    (λ task. omega (
      arith,
      task_sum cells merit tasks are task,
      from_bool-one (has_task o.organism.credited task),
      ap one (ap (is_credited task) here),
      get_or-le-sum_by (λ slot. one (is_credited task slot)) cells cell None within,
    ))

-- an organism comes
pub AreSummedIn-put : (cells : List (Option Occupant)) (cell : ℕ) (o : Occupant) (merit : ℕ)
    (tasks : List ℕ) → cell < length cells → get_or cells cell None ≡ None
    → o.organism.merit ≤ 2 ^ 38 → AreSummedIn cells merit tasks
    → AreSummedIn (set cells cell (Some o)) (merit + o.organism.merit)
    (tasks_with tasks o.organism.credited)
AreSummedIn-put cells cell o merit tasks within here fits are =
    AreSummedIn-set cells cell (Some o) merit _ tasks _
    (λ task. slice_index tasks (task_place task) + from_bool (has_task o.organism.credited task))
    within fits are (omega (arith, ap merit_in here)) refl
    (λ task. omega (
      arith,
      task_sum cells merit tasks are task,
      from_bool-one (has_task o.organism.credited task),
      ap one (ap (is_credited task) here),
    ))

-- an organism has another merit and credited set, as if one went and the other came
pub AreSummedIn-renewed : (cells : List (Option Occupant)) (cell : ℕ) (o next : Occupant)
    (merit : ℕ) (tasks : List ℕ) → cell < length cells → get_or cells cell None ≡ Some o
    → next.organism.merit ≤ 2 ^ 38 → AreSummedIn cells merit tasks
    → AreSummedIn (set cells cell (Some next)) (merit - o.organism.merit + next.organism.merit)
    (tasks_with (tasks_without tasks o.organism.credited) next.organism.credited)
AreSummedIn-renewed cells cell o next merit tasks within here fits are =
    rw (← set-set cells cell None (Some next))
    (AreSummedIn-put (set cells cell None) cell next (merit - o.organism.merit)
    (tasks_without tasks o.organism.credited) (lt-length-set cells cell None within)
    (get_or-set_same cells cell None None within) fits
    (AreSummedIn-removed cells cell o merit tasks within here are))

-- an organism has its merit and credited set as before
pub AreSummedIn-same : (cells : List (Option Occupant)) (cell : ℕ) (slot : Option Occupant)
    (merit : ℕ) (tasks : List ℕ) → cell < length cells
    → merit_in slot ≡ merit_in (get_or cells cell None)
    → ((task : Task) → is_credited task slot ≡ is_credited task (get_or cells cell None))
    → AreSummedIn cells merit tasks → AreSummedIn (set cells cell slot) merit tasks
AreSummedIn-same cells cell slot merit tasks within same alike are =
    AreSummedIn-set cells cell slot merit merit tasks tasks (cells_with cells) within
    (omega (arith, same, are.fits cell None within)) are (omega (arith, same)) are.task_counts
    (λ task. omega (arith, ap one (alike task)))
