-- What the operators on bits make of a set of tasks.
use Rattle.std.proofs.Common.{◌≡◌, ◌≢◌, ◌∙◌, sym, ap, ℕ, ◌*◌, ◌%◌, ◌^◌, ◌<◌, ◌==◌, true, false, length, get_or, arith, bit_or, inl, inr}
use Rattle.std.specs.Int.{bit_at, w16}
use Rattle.std.proofs.Math.ListN.{set}
use Rattle.std.proofs.lemmas.Bool.Decides.{eqb_tells}
use Rattle.std.proofs.lemmas.List.{length-set, get_or-set_other}
use Rattle.std.proofs.lemmas.Grind.{get_or-set_at}
use Rattle.std.proofs.lemmas.List.FromFn.{fill_by_all}
use Rattle.std.proofs.lemmas.Nat.{or_lt}
use Rattle.std.proofs.lemmas.Nat.Bits.{bit_at_set_same, bit_at_set_other}
use Rattle.logic_tasks.specs.declared.task.Task.{Task}
use Rattle.logic_tasks.specs.declared.task.Task.TheVariants.{Not}
use Rattle.logic_tasks.specs.LogicTasks.{has_bit, task_place, tasks_of}
use Rattle.logic_tasks.specs.TaskBitsLaws.{length-tasks_of, get_or-tasks_of, number_of-tasks_of}

-- a task's place is in the table
pub place_of-small : (task : Task) → task_place task < 9
place_of-small Not = omega arith
place_of-small _ = omega arith

-- so is its bit
pub bit_of-small : (task : Task) → 1 * 2 ^ task_place task % 65536 < 512
bit_of-small Not = omega arith
bit_of-small _ = omega arith

-- a number with one more bit stays small
pub with_bit-small : (bits : ℕ) (task : Task) → bits < 512
    → bit_or bits (1 * 2 ^ task_place task % 65536) < 512
with_bit-small bits task small =
    or_lt 9 bits (1 * 2 ^ task_place task % 65536) small (bit_of-small task)

-- the bits of a number with one more are those of the set with one task more
pub has_bit-with : (bits place k : ℕ) → place < 9 → k < 9
    → get_or (set (tasks_of bits) place true) k false
    ≡ has_bit (bit_or bits (1 * 2 ^ place % 65536)) k
has_bit-with bits place k within below =
    let wide : place < 16 = omega arith in
    let told : place < length (tasks_of bits) = omega (arith, length-tasks_of bits) in
    elim (eqb_tells place k) [
      | inl h ↦ get_or-set_at (tasks_of bits) place k true false (sym h.1) told
          ∙ sym (ap (λ b. b == 1) (ap (bit_at (bit_or bits (1 * 2 ^ place % 65536))) (sym h.1)
          ∙ bit_at_set_same w16 bits place wide))
      | inr h ↦
          let other : k ≢ place = λ e. h.1 (sym e) in
          get_or-set_other (tasks_of bits) place k true false other ∙ get_or-tasks_of bits k below
          ∙ sym (ap (λ b. b == 1) (bit_at_set_other w16 bits place wide k other))
    ]

-- and stands for the set with that task
pub tasks_of-with : (bits place : ℕ) → place < 9
    → tasks_of (bit_or bits (1 * 2 ^ place % 65536)) ≡ set (tasks_of bits) place true
unfolding tasks_of
tasks_of-with bits place within =
    sym (fill_by_all (has_bit (bit_or bits (1 * 2 ^ place % 65536)))
    (set (tasks_of bits) place true) 9 false
    (length-set (tasks_of bits) place true ∙ length-tasks_of bits)
    (λ k below. has_bit-with bits place k within below))

pub ruleset set_numbers = (number_of-tasks_of)
