-- The bits of words.
use Rattle.std.proofs.Common.{◌-◌, zero, suc, true, false, not, arith, ◌≡◌, ◌∙◌, sym, ap, refl, ℕ, ◌+◌, ◌%◌, ◌<◌, ◌≤◌, ◌==◌, min, max, Bool, ◌&&◌, ◌||◌, bit_and, bit_or, subst, inl, inr}
use Rattle.std.proofs.Math.Nat.{eq-or-lt_of_le}
use Rattle.std.specs.Bool.{Decides, beq}
use mathlib.Core.Bool.{xor}
use Rattle.std.specs.Cmp.{booleans_Decides}
use Rattle.std.specs.Int.{bit_at, w32}
use Rattle.std.specs.Int.RustNames.{bit_xor}
use Rattle.std.specs.List.{list_all, range_with_len}
use Rattle.std.proofs.lemmas.Bool.Decides.{Decides-eqb, Decides-like, same_from_decides}
use Rattle.std.proofs.lemmas.Nat.Bits.{bit_at_and, bit_at_or, bit_at_xor, bit_at_not, bit_at-lt, same_from_bits_below}
use Rattle.logic_tasks.specs.declared.task.Task.{Task}
use Rattle.logic_tasks.specs.LogicTasks.{has_bit, output_bit, computes}

-- a bit is 0 or 1
pub bit-not : (b : ℕ) → b < 2 → (1 - b == 1) ≡ not (b == 1)
bit-not zero h = refl
bit-not (suc zero) h = refl
bit-not (suc (suc b)) h = absurd (omega arith)

-- what holds of both values of two bits holds of any two bits
by_bits : (P : ℕ → ℕ → Type 0) → P 0 0 → P 0 1 → P 1 0 → P 1 1
    → (a b : ℕ) → a < 2 → b < 2 → P a b
by_bits P none second first both zero zero h k = none
by_bits P none second first both zero (suc zero) h k = second
by_bits P none second first both (suc zero) zero h k = first
by_bits P none second first both (suc zero) (suc zero) h k = both
by_bits P none second first both _ _ h k = absurd (omega arith)

-- the lesser of two bits is 1 just where both are
pub bit-and : (a b : ℕ) → a < 2 → b < 2 → (min a b == 1) ≡ ((a == 1) && (b == 1))
bit-and = by_bits (λ a b. (min a b == 1) ≡ ((a == 1) && (b == 1))) refl refl refl refl

-- the greater of two bits is 1 just where one of them is, or both
pub bit-or : (a b : ℕ) → a < 2 → b < 2 → (max a b == 1) ≡ ((a == 1) || (b == 1))
bit-or = by_bits (λ a b. (max a b == 1) ≡ ((a == 1) || (b == 1))) refl refl refl refl

-- the sum of two bits is odd just where one of them is 1, and not both
pub bit-xor : (a b : ℕ) → a < 2 → b < 2 → ((a + b) % 2 == 1) ≡ xor (a == 1) (b == 1)
unfolding xor
bit-xor = by_bits (λ a b. ((a + b) % 2 == 1) ≡ xor (a == 1) (b == 1)) refl refl refl refl

-- the operators, bit by bit
pub has_bit-not : (n k : ℕ) → n < 4294967296 → k < 32
    → has_bit (4294967295 - n) k ≡ not (has_bit n k)
has_bit-not n k fits within =
    ap (λ b. b == 1) (bit_at_not w32 n k fits within) ∙ bit-not (bit_at n k) (bit_at-lt n k)

-- a bit of `and` is set just where both words have it
pub has_bit-and : (x y k : ℕ) → has_bit (bit_and x y) k ≡ (has_bit x k && has_bit y k)
has_bit-and x y k = ap (λ b. b == 1) (bit_at_and x y k)
    ∙ bit-and (bit_at x k) (bit_at y k) (bit_at-lt x k) (bit_at-lt y k)

-- a bit of `or` is set just where one of the words has it, or both
pub has_bit-or : (x y k : ℕ) → has_bit (bit_or x y) k ≡ (has_bit x k || has_bit y k)
has_bit-or x y k = ap (λ b. b == 1) (bit_at_or x y k)
    ∙ bit-or (bit_at x k) (bit_at y k) (bit_at-lt x k) (bit_at-lt y k)

-- a bit of `xor` is set just where one of the words has it, and not both
pub has_bit-xor : (x y k : ℕ) → has_bit (bit_xor x y) k ≡ xor (has_bit x k) (has_bit y k)
has_bit-xor x y k = ap (λ b. b == 1) (bit_at_xor x y k)
    ∙ bit-xor (bit_at x k) (bit_at y k) (bit_at-lt x k) (bit_at-lt y k)

-- a bit is told by its test
pub bit_at-same : (a b : ℕ) → a < 2 → b < 2 → (a == 1) ≡ (b == 1) → a ≡ b
bit_at-same = by_bits (λ a b. (a == 1) ≡ (b == 1) → a ≡ b) (λ e. refl) (λ e. cc) (λ e. cc) (λ e. refl)

-- both parts of a test
pub and_parts : (a b : Bool) → (a && b) ≡ true → (a ≡ true) × (b ≡ true)
and_parts true b e = (refl, e)
and_parts false b e = cc

-- a test of each number of a range
pub list_all-range : (test : ℕ → Bool) (P : ℕ → Type 0) → ((k : ℕ) → Decides (test k) (P k))
    → (n start end : ℕ) → end ≡ start + n
    → Decides (list_all test (range_with_len start n)) ((k : ℕ) → start ≤ k → k < end → P k)
list_all-range test P decides zero start end e = (λ _ k low high. absurd (omega arith), λ _. refl)
list_all-range test P decides (suc n) start end e =
    let rest = list_all-range test P decides n (start + 1) end (omega arith) in (
      λ passes k low high. elim (eq-or-lt_of_le low) [
        | inl same ↦ subst P same ((decides start).0 (and_parts _ _ passes).0)
        | inr above ↦ rest.0 (and_parts _ _ passes).1 k (omega arith) high
      ],
      λ all. rw ((decides start).1 (all start (omega arith) (omega arith)))
          (rest.1 (λ k low high. all k (omega arith) high)),
    )

-- the equations of a task hold at each bit
pub computes-Decides : (task : Task) (output x y : ℕ)
    → Decides (computes task output x y)
    ((k : ℕ) → k < 32 → has_bit output k ≡ output_bit task (has_bit x k) (has_bit y k))
unfolding computes
computes-Decides task output x y =
    let all = list_all-range (λ k. beq (has_bit output k)
    (output_bit task (has_bit x k) (has_bit y k)))
    (λ k. has_bit output k ≡ output_bit task (has_bit x k) (has_bit y k))
    (λ k. booleans_Decides (has_bit output k) (output_bit task (has_bit x k) (has_bit y k))) 32 0 32
    refl in (
      λ passes k within. all.0 passes k (omega arith) within,
      λ equations. all.1 (λ k low within. equations k within),
    )

-- a word with the bits of the task is the output exactly where the equations hold
pub computes-word : (task : Task) (output x y word : ℕ) → output < 4294967296 → word < 4294967296
    → ((k : ℕ) → k < 32 → has_bit word k ≡ output_bit task (has_bit x k) (has_bit y k))
    → (word == output) ≡ computes task output x y
computes-word task output x y word fits word_fits equations =
    let forth = λ (e : word ≡ output) (k : ℕ) (within : k < 32). ap (λ n. has_bit n k) (sym e)
    ∙ equations k within in
    let back = λ (others : (k : ℕ) → k < 32
    → has_bit output k ≡ output_bit task (has_bit x k) (has_bit y k)).
    same_from_bits_below 32 word output word_fits fits
    (λ k within. bit_at-same (bit_at word k) (bit_at output k) (bit_at-lt word k)
    (bit_at-lt output k) (equations k within ∙ sym (others k within))) in
    same_from_decides (word == output) (computes task output x y)
    (Decides-like (word == output) forth back (Decides-eqb word output))
    (computes-Decides task output x y)
