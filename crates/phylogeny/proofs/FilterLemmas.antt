-- Lists of ids, and how many of them pass a test.
use Rattle.std.proofs.Common.{◌≡◌, ℕ, zero, suc, ◌+◌, ◌≤◌, Bool, cond, List, [], ◌∷◌, Some, length, max, refl, arith}
use Rattle.std.specs.Prelude.{filter}
use Rattle.phylogeny.proofs.Prelude.{common_steps, AllByRecursion, range_with_len, reduce, option_or, all_filtered}
use Rattle.phylogeny.proofs.CountLemmas.{bit}

-- no number of a range is below a bound that its first number is not below
pub range_above : (least from len : ℕ) → least ≤ from
    → AllByRecursion (λ id. least ≤ id) (range_with_len from len)
range_above least from zero above = tt
range_above least from (suc len) above = (above, range_above least (from + 1) len (omega arith))

-- the greatest of some that are no less than one more
greatest_more : (id : ℕ) (ids : List ℕ) → AllByRecursion (λ other. id ≤ other) ids
    → reduce max (id ∷ ids) ≡ option_or (reduce max ids) (Some id)
greatest_more id [] all = refl
greatest_more id (other ∷ ids) all =
    grind (arith, common_steps, all.0)

-- a filter leaves one id more where the first passes
pub filter_length : (p : ℕ → Bool) (x : ℕ) (xs : List ℕ)
    → length (filter p (x ∷ xs)) ≡ length (filter p xs) + bit (p x)
filter_length p x xs = grind (arith, common_steps)

-- a filter leaves no more ids of a range than the range has
pub filter_few : (p : ℕ → Bool) (from len : ℕ) → length (filter p (range_with_len from len)) ≤ len
filter_few p from zero = omega arith
filter_few p from (suc len) =
    grind (arith, common_steps, filter_few p (from + 1) len)

-- the greatest id that passes, with one more in front that is no greater than any
pub greatest_filtered : (p : ℕ → Bool) (id : ℕ) (ids : List ℕ)
    → AllByRecursion (λ other. id ≤ other) ids
    → reduce max (filter p (id ∷ ids))
    ≡ cond (p id) (option_or (reduce max (filter p ids)) (Some id)) (reduce max (filter p ids))
greatest_filtered p id ids all =
    let more = greatest_more id (filter p ids) (all_filtered (λ other. id ≤ other) p ids all) in
    grind (arith, common_steps, more)
