-- The cells of parents rise.
use Rattle.std.proofs.Common.{◌≡◌, ◌∙◌, ap, subst, ℕ, zero, suc, ◌+◌, ◌<◌, ◌≤◌, List, [], ◌∷◌, ◌++◌, replicate, get_or, refl, arith, append_assoc, append-nil, All}
use Rattle.std.specs.List.{flat_map, range_with_len}
use Rattle.std.specs.List.Sorted.{IsNonDecreasing}
use Rattle.std.proofs.lemmas.Grind.{flat_map-append}
use Rattle.std.proofs.lemmas.List.{map-id, replicate_more}
use Rattle.std.proofs.lemmas.List.Elements.{All-append, All-replicate}
use Rattle.std.proofs.lemmas.List.FromFn.{map-range_with_len_more}
use Rattle.std.proofs.lemmas.List.Sorted.{IsNonDecreasingBy-push, IsNonDecreasingBy-short}

-- the parents in the first cells
abbrev pub parents_below : List ℕ → ℕ → List ℕ
parents_below counts n =
    flat_map (λ cell. replicate (get_or counts cell 0) cell) (range_with_len 0 n)

-- one cell more
pub range-more : (n : ℕ) → range_with_len 0 (n + 1) ≡ range_with_len 0 n ++ n ∷ []
range-more n = simp map-id at (map-range_with_len_more (λ (x : ℕ). x) 0 n n (omega arith))

-- with one cell more come its parents, as many as are counted for it
pub parents_below-more : (counts : List ℕ) (n : ℕ)
    → parents_below counts (n + 1) ≡ parents_below counts n ++ replicate (get_or counts n 0) n
parents_below-more counts n =
    let f = λ (cell : ℕ). replicate (get_or counts cell 0) cell in
    ap (flat_map f) (range-more n) ∙ rw (flat_map-append, append-nil (f n)) refl

-- all numbers are at most y
pub below-replicate : (xs : List ℕ) (n y : ℕ) → All (λ x. x ≤ y) xs
    → All (λ x. x ≤ y) (xs ++ replicate n y)
below-replicate xs n y small =
    All-append (λ x. x ≤ y) xs (replicate n y) small (All-replicate (λ x. x ≤ y) n y (omega arith))

-- a list that rises to y still rises with y at its end
pub rises-replicate : (xs : List ℕ) (n y : ℕ) → IsNonDecreasing xs → All (λ x. x ≤ y) xs
    → IsNonDecreasing (xs ++ replicate n y)
rises-replicate xs zero y rising small = rw append-nil rising
rises-replicate xs (suc n) y rising small =
    let next : n + 1 ≡ suc n = omega arith in
    let more : (xs ++ replicate n y) ++ y ∷ [] ≡ xs ++ replicate (suc n) y =
    append_assoc xs (replicate n y) (y ∷ [])
    ∙ ap (λ l. xs ++ l) (replicate_more n y ∙ ap (λ k. replicate k y) next) in
    subst IsNonDecreasing more
    (IsNonDecreasingBy-push (λ x. x) (xs ++ replicate n y) y
    (rises-replicate xs n y rising small)
    (λ d some. below-replicate xs n y small _ d (omega arith)))

-- the parents in the first cells rise, and are these cells
pub parents_below-rise : (counts : List ℕ) (n : ℕ) → IsNonDecreasing (parents_below counts n)
    × All (λ cell. cell < n) (parents_below counts n)
parents_below-rise counts zero =
    (IsNonDecreasingBy-short (λ x. x) [] (omega arith), λ k d within. absurd (omega arith))
parents_below-rise counts (suc n) =
    let next : n + 1 ≡ suc n = omega arith in
    let before = parents_below-rise counts n in
    let small : All (λ cell. cell ≤ n) (parents_below counts n) =
    λ k d within. omega (arith, before.1 k d within) in
    let more = rw next at (parents_below-more counts n) in
    let here = below-replicate (parents_below counts n) (get_or counts n 0) n small in (
      rw more (rises-replicate (parents_below counts n) (get_or counts n 0) n before.0 small),
      rw more (λ k d within. omega (arith, here k d within)),
    )
