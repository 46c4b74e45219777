-- Quotients that rise, and their differences.
use Rattle.std.proofs.Common.{◌≡◌, ◌∙◌, sym, ap, ℕ, zero, suc, ◌+◌, ◌-◌, ◌*◌, ◌/◌, ◌<◌, ◌≤◌, ◌^◌, List, length, take, map, sum, cond, get_or, add-one, arith, inl, inr}
use Rattle.std.proofs.Math.Nat.{div-mul-le_self, mul-le-mul_left, mul-le-mul, div-le_of_le-mul, mul-div_cancel, mul-add-div_right}
use Rattle.std.proofs.Math.Seq.{take-length}
use Rattle.std.proofs.lemmas.Bool.{cases_lt}
use Rattle.std.proofs.lemmas.Bool.Decides.{nat_tests}
use Rattle.std.proofs.Math.ListN.{get_or-eq_default}
use Rattle.std.proofs.lemmas.Nat.{le-div}
use Rattle.std.proofs.lemmas.List.FromFn.{get_or-map-range_with_len, length-map-range_with_len, sum_by-map-range_with_len_more}
use Rattle.std.proofs.lemmas.List.Sums.{sum_by-take-le, sum_by_more, sum_by-le-sum_by}
use Rattle.std.specs.Prelude.{nat_lt}
use Rattle.std.specs.List.{range_with_len}
use Rattle.merit_slices.specs.Slices.{living_in, quota, steps_before, share_of, shares_of}

-- a larger part of the merits gets no less
pub quota-le-quota : (steps part more all : ℕ) → 0 < all → part ≤ more
    → quota steps part all ≤ quota steps more all
quota-le-quota steps part more all some h =
    le-div (quota steps part all) (steps * more) all some
    (omega (arith, div-mul-le_self (steps * part) all, mul-le-mul_left steps h))

-- and no part gets more than all
pub quota-le : (steps part all : ℕ) → part ≤ all → quota steps part all ≤ steps
quota-le steps part all h = div-le_of_le-mul all (omega (arith, mul-le-mul_left steps h))

-- a quotient by an inverse that is rounded down is not too great
pub low-quotient : (product all inverse : ℕ) → inverse * all < 2 ^ 64
    → product * inverse / 2 ^ 64 * all ≤ product
low-quotient product all inverse h =
    let low = product * inverse / 2 ^ 64 in
    let left = mul-le-mul_left all (div-mul-le_self (product * inverse) (2 ^ 64)) in
    let least : inverse * all ≤ 2 ^ 64 = omega (arith, h) in
    let right = mul-le-mul_left product least in
    omega (arith, left, right)

-- what is left over after a quotient that isn't too great is divided in its turn
pub quotient-and-rest : (product all low : ℕ) → 0 < all → low * all ≤ product
    → low + (product - low * all) / all ≡ product / all
quotient-and-rest product all low some h =
    sym (mul-add-div_right some low (product - low * all))
    ∙ ap (λ n. n / all) (omega (arith, h))

-- no place of the shares has more than all steps
pub shares_of-few : (merits : List ℕ) (steps : ℕ) → (cell : ℕ)
    → get_or (shares_of merits steps) cell 0 ≤ steps
shares_of-few merits steps cell =
    elim (cases_lt cell (length merits)) [
      | inl within ↦ omega (
        arith,
        get_or-map-range_with_len (share_of merits steps) 0 (length merits) cell cell 0 within
            (omega arith),
        quota-le steps (sum (take (cell + 1) merits)) (sum merits)
            (sum_by-take-le (λ x. x) merits (cell + 1)),
      )
      | inr past ↦
          let beyond : length (shares_of merits steps) ≤ cell =
          omega (arith, length-map-range_with_len (share_of merits steps) 0 (length merits)) in
          omega (arith, get_or-eq_default (shares_of merits steps) 0 beyond)
    ]

-- all steps are few
pub steps-few : (average living : ℕ) → average ≤ 1000 → living ≤ 65536 → average * living < 2 ^ 27
steps-few average living few cells = omega (arith, mul-le-mul few cells)

-- the shares of the first cells are together the steps before the next one
sum-shares : (merits : List ℕ) (steps n : ℕ) → 0 < sum merits → n ≤ length merits
    → sum (map (share_of merits steps) (range_with_len 0 n)) ≡ steps_before merits steps n
sum-shares merits steps zero some within =
    let nothing : quota steps 0 (sum merits) ≤ 0 = div-le_of_le-mul (sum merits) (omega arith) in
    omega (arith, nothing)
sum-shares merits steps (suc n) some within =
    let more = sum_by_more (λ x. x) merits n 0 (omega arith) in
    let rises : steps_before merits steps n ≤ steps_before merits steps (n + 1) =
    quota-le-quota steps (sum (take n merits)) (sum (take (n + 1) merits)) (sum merits) some
    (omega (arith, more)) in
    let one = sum_by-map-range_with_len_more (λ x. x) (share_of merits steps) 0 n n (omega arith) in
    let all : sum (map (share_of merits steps) (range_with_len 0 (n + 1)))
    ≡ steps_before merits steps (n + 1) =
    omega (arith, one, sum-shares merits steps n some (omega arith), rises) in
    rw (add-one n) at all

-- all shares are together all steps
pub sum-shares_of : (merits : List ℕ) (steps : ℕ) → 0 < sum merits
    → sum (shares_of merits steps) ≡ steps
sum-shares_of merits steps some =
    sum-shares merits steps (length merits) some (omega arith)
    ∙ ap (λ part. quota steps (sum part) (sum merits)) (take-length merits)
    ∙ mul-div_cancel steps some

-- who lives counts for no more than the merit
counted-le : (merit : ℕ) → cond (nat_lt 0 merit) 1 0 ≤ merit
counted-le merit = grind (arith, nat_tests)

-- no more live than all merits together
pub living-le-sum : (merits : List ℕ) → living_in merits ≤ sum merits
living-le-sum merits =
    sum_by-le-sum_by (λ merit. cond (nat_lt 0 merit) 1 0) (λ merit. merit) merits counted-le
