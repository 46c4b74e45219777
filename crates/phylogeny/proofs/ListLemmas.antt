-- Lists by their places.
use Rattle.std.proofs.Common.{◌≡◌, ℕ, zero, suc, ◌+◌, ◌<◌, List, [], ◌∷◌, ◌++◌, Some, None, length, get_or, refl, arith}
use Rattle.std.specs.Prelude.{replicate, slice_get}
use Rattle.phylogeny.proofs.Prelude.{common_steps}
use Rattle.lineage_log.proofs.StandingLemmas.{get_seam}

-- many times one item has it at each place, where that item is also what stands beyond the end
pub get_replicated : {A : Type 0} (n i : ℕ) (x : A) → get_or (replicate n x) i x ≡ x
get_replicated zero i x = refl
get_replicated (suc n) zero x = refl
get_replicated (suc n) (suc i) x = get_replicated n i x

-- one item more at the end leaves the items before it in their places
get_before : {A : Type 0} (xs : List A) (y : A) (i : ℕ) → i < length xs
    → slice_get (xs ++ y ∷ []) i ≡ slice_get xs i
get_before [] y i within = absurd (omega arith)
get_before (x ∷ xs) y zero within = refl
get_before (x ∷ xs) y (suc i) within = get_before xs y i (omega arith)

-- a list that holds what is wanted at each place, and one item more
pub each_pushed : {A : Type 0} (want : ℕ → A) (xs : List A) (y : A) (n : ℕ) → length xs ≡ n
    → ((i : ℕ) → i < n → slice_get xs i ≡ Some (want i)) → y ≡ want n → (i : ℕ) → i < n + 1
    → slice_get (xs ++ y ∷ []) i ≡ Some (want i)
each_pushed want xs y n len each last i within =
    grind (arith, common_steps, get_before xs y i, each i, get_seam xs [] y, last)

-- there is an item at a place within the list
pub not_past : {A : Type 0} (xs : List A) (i : ℕ) → i < length xs → None ≡ slice_get xs i → ⊥
not_past [] i within is = absurd (omega arith)
not_past (x ∷ xs) zero within is = cc
not_past (x ∷ xs) (suc i) within is = not_past xs i (omega arith) is
