-- A number below 512 is that of the set that it stands for.
use Rattle.std.specs.Prelude.{◌≡◌, ℕ, ◌/◌, ◌^◌, ◌<◌, Bool, true, false, List, [], ◌∷◌, length, refl}
use Rattle.std.specs.Int.{bit_at}
use Rattle.std.proofs.Common.{◌∙◌, ap, subst, suc, zero, cond, arith, ◌==◌, get_or}
use Rattle.std.proofs.Math.Nat.{pow-suc}
use Rattle.std.proofs.lemmas.List.FromFn.{get_or-map-range_with_len, length-map-range_with_len}
use Rattle.std.proofs.lemmas.Nat.Bits.{bit_at-suc, bit_at_lowest, bit_at-zero, bit_at-lt, same_from_bits_below}
use Rattle.logic_tasks.specs.LogicTasks.{has_bit, tasks_of, bits_of_tasks}

-- a digit is 0 or 1
pub digit-small : (b : Bool) → cond b 1 0 < 2
digit-small true = omega arith
digit-small false = omega arith

-- the number of a set has a bit for each task
pub number_of-small : (tasks : List Bool) → bits_of_tasks tasks < 2 ^ length tasks
number_of-small [] = omega arith
number_of-small (task ∷ tasks) = rw pow-suc (omega (arith, number_of-small tasks, digit-small task))

-- a bit of the number tells whether the set has its task
pub bit_at-number_of : (tasks : List Bool) (i : ℕ)
    → bit_at (bits_of_tasks tasks) i ≡ cond (get_or tasks i false) 1 0
bit_at-number_of [] i = bit_at-zero i
bit_at-number_of (task ∷ tasks) zero =
    bit_at_lowest (bits_of_tasks (task ∷ tasks)) ∙ omega (arith, digit-small task)
bit_at-number_of (task ∷ tasks) (suc i) =
    let half : bits_of_tasks (task ∷ tasks) / 2 ≡ bits_of_tasks tasks =
    omega (arith, digit-small task) in
    bit_at-suc (bits_of_tasks (task ∷ tasks)) i ∙ ap (λ n. bit_at n i) half
    ∙ bit_at-number_of tasks i

-- a bit is the digit of its test
pub digit-bit : (b : ℕ) → b < 2 → cond (b == 1) 1 0 ≡ b
digit-bit zero h = refl
digit-bit (suc zero) h = refl
digit-bit (suc (suc b)) h = absurd (omega arith)

-- how many tasks a set tells of
pub length-tasks_of : (bits : ℕ) → length (tasks_of bits) ≡ 9
unfolding tasks_of
length-tasks_of bits = length-map-range_with_len (has_bit bits) 0 9

-- which tasks it has
pub get_or-tasks_of : (bits i : ℕ) → i < 9 → get_or (tasks_of bits) i false ≡ has_bit bits i
unfolding tasks_of
get_or-tasks_of bits i within =
    get_or-map-range_with_len (has_bit bits) 0 9 i i false within (omega arith)

-- a number is the number of the set that it stands for
pub number_of-tasks_of : (bits : ℕ) → bits < 512 → bits_of_tasks (tasks_of bits) ≡ bits
number_of-tasks_of bits small =
    let few : bits_of_tasks (tasks_of bits) < 2 ^ 9 =
    subst (λ n. bits_of_tasks (tasks_of bits) < 2 ^ n) (length-tasks_of bits)
    (number_of-small (tasks_of bits)) in
    same_from_bits_below 9 (bits_of_tasks (tasks_of bits)) bits few small
    (λ i within. bit_at-number_of (tasks_of bits) i
    ∙ ap (λ b. cond b 1 0) (get_or-tasks_of bits i within)
    ∙ digit-bit (bit_at bits i) (bit_at-lt bits i))
