-- The counts of the tasks, changed one after another.
use Rattle.std.proofs.Common.{◌≡◌, ◌∙◌, sym, refl, ℕ, ◌+◌, ◌-◌, ◌<◌, ◌≤◌, Bool, List, length, map, set, get_or, get_or-set_same, get_or-set_other, below_more, arith, zero-add}
use Rattle.std.specs.Prelude.{slice_index}
use Rattle.std.specs.Int.{from_bool}
use Rattle.std.specs.List.{All}
use Rattle.std.proofs.lemmas.Grind.{common_steps}
use Rattle.std.proofs.lemmas.List.Elements.{All-map}
use Rattle.std.proofs.lemmas.List.{length-set, ext_get_or, get_or-map}
use Rattle.std.proofs.lemmas.List.FromFn.{get_or-range_with_len}
use Rattle.logic_tasks.specs.declared.task.Task.{Task}
use Rattle.logic_tasks.specs.declared.task.Task.TheVariants.{Not}
use Rattle.logic_tasks.specs.LogicTasks.{all_tasks, task_place, has_task}
use Rattle.census.specs.Changes.{tasks_without}

-- the place of a task of the table
place_of-nth : (k : ℕ) → k < 9 → task_place (get_or all_tasks k Not) ≡ k
place_of-nth k h =
    sym (get_or-map task_place all_tasks k Not 0 h) ∙ get_or-range_with_len 0 9 k 0 h ∙ zero-add k

-- one more, or one fewer, where a set has the task
abbrev pub changed : (ℕ → ℕ → ℕ) → List ℕ → List Bool → Task → ℕ
changed change before credited task =
    change (slice_index before (task_place task)) (from_bool (has_task credited task))

-- the first of these counts are changed, and the others are as they were
pub record HasChanged (change : ℕ → ℕ → ℕ) (before : List ℕ) (credited : List Bool) (after : List ℕ)
    (i : ℕ) : Type 0 where
  pub long : length after ≡ 9
  pub first : (k : ℕ) → k < i
      → get_or after k 0 ≡ changed change before credited (get_or all_tasks k Not)
  pub others : (k : ℕ) → i ≤ k → get_or after k 0 ≡ get_or before k 0

-- one count more is changed
pub HasChanged-more : (change : ℕ → ℕ → ℕ) (before : List ℕ) (credited : List Bool) (after : List ℕ)
    (i by : ℕ) → i < 9 → HasChanged change before credited after i
    → by ≡ from_bool (has_task credited (get_or all_tasks i Not))
    → HasChanged change before credited (set after i (change (get_or after i 0) by)) (i + 1)
HasChanged-more change before credited after i by within has is =
    let n : ℕ = change (get_or after i 0) by in
    let inside : i < length after = omega (arith, has.long) in
    let now : n ≡ changed change before credited (get_or all_tasks i Not) =
    rw (has.others i (omega arith), is, place_of-nth i within) refl in
    record {
      long = length-set after i n ∙ has.long;
      first = below_more _ _ (λ k h. get_or-set_other after i k n 0 (omega arith) ∙ has.first k h)
          (get_or-set_same after i n 0 inside ∙ now);
      others = λ k h. get_or-set_other after i k n 0 (omega arith) ∙ has.others k (omega arith);
    }

-- all are changed
pub HasChanged-all : (change : ℕ → ℕ → ℕ) (before : List ℕ) (credited : List Bool) (after : List ℕ)
    → HasChanged change before credited after 9
    → after ≡ map (changed change before credited) all_tasks
HasChanged-all change before credited after has =
    ext_get_or 0 after (map (changed change before credited) all_tasks) has.long
    (λ k h. let within : k < 9 = omega (arith, has.long) in has.first k within
    ∙ sym (get_or-map (changed change before credited) all_tasks k Not 0 within))

-- counts that are small stay so where each is one fewer or as it was
pub fewer-small : (counts : List ℕ) (credited : List Bool) (most : ℕ) → 0 < most
    → All (λ count. count < most) counts
    → All (λ count. count < most) (tasks_without counts credited)
fewer-small counts credited most some small =
    All-map (λ count. count < most) (changed (λ n by. n - by) counts credited) all_tasks
    (λ k task within. omega (arith, read (task_place (get_or all_tasks k task))))
  where
    read : (place : ℕ) → get_or counts place 0 < most
    read place = grind (arith, common_steps, small place 0, some)
