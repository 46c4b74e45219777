-- Some place of a list passes a test.
use Rattle.std.proofs.Common.{◌-◌, suc, arith, ◌≡◌, ℕ, ◌+◌, ◌<◌, Bool, ◌||◌, refl}
use Rattle.std.specs.List.{list_any, range_with_len}

-- the places from one on
pub list_any-next : (test : ℕ → Bool) (place n : ℕ) → place < n
    → list_any test (range_with_len place (n - place))
    ≡ (test place || list_any test (range_with_len (place + 1) (n - (place + 1))))
list_any-next test place n h =
    let more : n - place ≡ suc (n - (place + 1)) = omega arith in rw more refl
