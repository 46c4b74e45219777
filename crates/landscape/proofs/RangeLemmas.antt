-- Numbers from one on, and what is read of a list.
use Rattle.std.proofs.Common.{◌≡◌, ℕ, suc, ◌+◌, ◌-◌, ◌<◌, ◌∷◌, ap, arith}
use Rattle.std.specs.List.{range_with_len}

-- the numbers that are left begin with the next one
pub range_next : (from bound : ℕ) → from < bound
    → range_with_len from (bound - from) ≡ from ∷ range_with_len (from + 1) (bound - (from + 1))
range_next from bound within =
    let e : bound - from ≡ suc (bound - (from + 1)) = omega arith in
    ap (range_with_len from) e
