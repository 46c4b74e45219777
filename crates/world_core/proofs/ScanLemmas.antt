-- A scan beside the fold of its states, one element after another.
use Rattle.std.proofs.Common.{◌≡◌, refl, ap, ℕ, ◌+◌, ◌<◌, List, [], ◌∷◌, ◌++◌, length, take, get_or, fold, Option, None, Some, append_assoc, append-nil}
use Rattle.world_core.proofs.Prelude.{scan, filter_map, flat_map, option_to_list, take_more, flat_map-append, filter_map-append}

-- the outputs of a list and of one behind it
pub scan-append : {S X Y : Type 0} (next : S → X → S) (out : S → X → Y) (a : S) (xs ys : List X)
    → scan next out a (xs ++ ys) ≡ scan next out a xs ++ scan next out (fold next a xs) ys
scan-append next out a [] ys = refl
scan-append next out a (x ∷ xs) ys = ap (λ l. out a x ∷ l) (scan-append next out (next a x) xs ys)

-- the outputs of one element more
pub scan-more : {S X Y : Type 0} (next : S → X → S) (out : S → X → Y) (a : S) (xs : List X) (i : ℕ)
    (d : X) → i < length xs → scan next out a (take (i + 1) xs) ≡ scan next out a (take i xs)
    ++ out (fold next a (take i xs)) (get_or xs i d) ∷ []
scan-more next out a xs i d within =
    rw (take_more xs i d within) (scan-append next out a (take i xs) (get_or xs i d ∷ []))

-- what there is of one option
pub filter_map-single : {Y : Type 0} (o : Option Y)
    → filter_map (λ y. y) (o ∷ []) ≡ option_to_list o
filter_map-single None = refl
filter_map-single (Some y) = refl

-- the text of what a scan tells, one element more, where each element tells something or nothing
pub told-more : {S X Y : Type 0} (next : S → X → S) (out : S → X → Option Y) (text : Y → List ℕ)
    (a : S) (xs : List X) (i : ℕ) (d : X) → i < length xs
    → flat_map text (filter_map (λ y. y) (scan next out a (take (i + 1) xs)))
    ≡ flat_map text (filter_map (λ y. y) (scan next out a (take i xs)))
    ++ flat_map text (option_to_list (out (fold next a (take i xs)) (get_or xs i d)))
told-more next out text a xs i d within =
    rw (scan-more next out a xs i d within, filter_map-append, filter_map-single, flat_map-append)

-- the text of what a scan tells, one element more
pub lines-more : {S X Y : Type 0} (next : S → X → S) (out : S → X → Y) (text : Y → List ℕ) (a : S)
    (xs : List X) (i : ℕ) (d : X) → i < length xs
    → flat_map text (scan next out a (take (i + 1) xs))
    ≡ flat_map text (scan next out a (take i xs))
    ++ text (out (fold next a (take i xs)) (get_or xs i d))
lines-more next out text a xs i d within =
    rw (scan-more next out a xs i d within, flat_map-append, append-nil)

module _ {S X Y : Type 0} (next : S → X → S) (text : Y → List ℕ) (a : S) (xs : List X) (i : ℕ)
    (d : X) (within : i < length xs) where
  -- one element more of what is told, where the state stands behind the first i
  pub told-step : {s : S} {old new : List ℕ} (start : List ℕ) (out : S → X → Option Y)
      → s ≡ fold next a (take i xs)
      → old ≡ start ++ flat_map text (filter_map (λ y. y) (scan next out a (take i xs)))
      → new ≡ old ++ flat_map text (option_to_list (out s (get_or xs i d)))
      → new ≡ start ++ flat_map text (filter_map (λ y. y) (scan next out a (take (i + 1) xs)))
  told-step start out state so_far one =
      rw (one, so_far, append_assoc, state, told-more next out text a xs i d within)

  -- one element more of the lines, where the state stands behind the first i
  pub lines-step : {s : S} {old new : List ℕ} (start : List ℕ) (out : S → X → Y)
      → s ≡ fold next a (take i xs) → old ≡ start ++ flat_map text (scan next out a (take i xs))
      → new ≡ old ++ text (out s (get_or xs i d))
      → new ≡ start ++ flat_map text (scan next out a (take (i + 1) xs))
  lines-step start out state so_far one =
      rw (one, so_far, append_assoc, state, lines-more next out text a xs i d within)
