-- How large a merit is.
use Rattle.std.proofs.Common.{◌≡◌, ◌∙◌, ℕ, ◌*◌, ◌^◌, ◌≤◌, Bool, true, false, List, take, arith, sum_by, cond, one-mul, ap, ◌%◌}
use Rattle.std.proofs.Math.Nat.{pow-le-pow_right, one-le-pow, mul-le-mul, mod-eq_of_lt}
use Rattle.std.proofs.lemmas.List.Sums.{sum_by-le-sum_by}
use Rattle.logic_tasks.specs.LogicTasks.{all_tasks, has_task}
use Rattle.merit_slices.specs.Merit.{exponent_of, exponent_in, exponent_sum}

-- a part of a number
pub if-le : (b : Bool) (n : ℕ) → cond b n 0 ≤ n
if-le true n = omega arith
if-le false n = omega arith

-- all tasks together double 25 times
pub exponent_sum-le : (tasks : List Bool) → exponent_sum tasks ≤ 25
unfolding exponent_sum
exponent_sum-le tasks = sum_by-le-sum_by (exponent_in tasks) exponent_of all_tasks
    (λ task. if-le (has_task tasks task) (exponent_of task))

-- the tasks up to the last are all
pub exponent_sum-all : (tasks : List Bool) (n : ℕ) → n ≡ 9
    → sum_by (exponent_in tasks) (take n all_tasks) ≡ exponent_sum tasks
unfolding exponent_sum
exponent_sum-all tasks n all = ap (λ k. sum_by (exponent_in tasks) (take k all_tasks)) all

-- what a shift by so few places gives
pub shifted : (exponent : ℕ) → exponent ≤ 25
    → 1 * 2 ^ exponent % 18446744073709551616 ≡ 2 ^ exponent
shifted exponent few =
    let power : 2 ^ exponent ≤ 2 ^ 25 = pow-le-pow_right (omega arith) few in
    ap (λ n. n % 18446744073709551616) (one-mul (2 ^ exponent)) ∙ mod-eq_of_lt (omega arith)

-- a merit is at most that of the longest genome with every task
pub merit_of-le : (least exponent : ℕ) → least ≤ 8192 → exponent ≤ 25
    → least * 2 ^ exponent ≤ 2 ^ 38
merit_of-le least exponent short few =
    let power : 2 ^ exponent ≤ 2 ^ 25 = pow-le-pow_right (omega arith) few in
    mul-le-mul short power

-- and at least 1
pub merit_of-positive : (least exponent : ℕ) → 1 ≤ least → 1 ≤ least * 2 ^ exponent
merit_of-positive least exponent some = mul-le-mul some (one-le-pow exponent 2 (omega arith))
