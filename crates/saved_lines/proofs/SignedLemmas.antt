-- The number of 32 bits that a word spells, by its first byte.
use Rattle.std.proofs.Common.{◌≡◌, ℕ, zero, suc, ℤ, pos, ◌-◌, ◌<◌, ◌≤◌, List, [], ◌∷◌, Some, inl, inr, subst, refl, ap, arith, zero-add}
use Rattle.std.specs.Prelude.{negsuc, FitsSigned, ◌-ℤ◌, ◌==◌}
use Rattle.saved_lines.proofs.Prelude.{w32, cast_signed, cast_unsigned, to_z-of_z, to_z_pos, cases_Bool, number_of, some_map, below_zero, read_signed}
use Rattle.saved_lines.proofs.RangeLemmas.{number_within}

-- one more below 0
minus_one : (m : ℕ) → negsuc 0 -ℤ pos m ≡ negsuc m
minus_one zero = refl
minus_one (suc m) = ap (λ (k : ℕ). negsuc (suc k)) (zero-add m)

-- the number below 0 that the code makes of its size
pub made_below_zero : (size : ℕ) → 1 ≤ size → size ≤ 2147483648
    → cast_signed w32 (cast_unsigned w32 (negsuc 0 -ℤ cast_signed w32 (size - 1)))
    ≡ negsuc (size - 1)
made_below_zero size some few =
    let m = size - 1 in
    let small : m < 2147483648 = omega (arith, some, few) in
    let one : cast_signed w32 m ≡ pos m = to_z_pos w32 m small in
    rw (one, minus_one m) (to_z-of_z w32 (negsuc m) (record { sfits = small }))

-- the number from 0 on that it makes
pub made_plain : (size : ℕ) → size ≤ 2147483647 → cast_signed w32 size ≡ pos size
made_plain size few = to_z_pos w32 size (omega (arith, few))

-- the number that a word spells has 32 bits
pub signed_fits : (word : List ℕ) (z : ℤ) → read_signed word ≡ Some z → FitsSigned w32 z
signed_fits [] z is = absurd cc
signed_fits (b ∷ bs) z is = elim (cases_Bool (b == 45)) [
  | inl minus ↦
      let some = some_map below_zero (number_of 1 2147483648 bs) z (rw minus at is) in
      let bounds = number_within 1 2147483648 some.0 bs some.1 in
      subst (λ (y : ℤ). FitsSigned w32 y) some.2
      (record { sfits = omega (arith, bounds.0, bounds.1) })
  | inr other ↦
      let some = some_map pos (number_of 0 2147483647 (b ∷ bs)) z (rw other at is) in
      let bounds = number_within 0 2147483647 some.0 (b ∷ bs) some.1 in
      subst (λ (y : ℤ). FitsSigned w32 y) some.2 (record { sfits = omega (arith, bounds.1) })
]
