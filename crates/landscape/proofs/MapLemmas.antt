-- Results that are all there are those of the items, in order.
use Rattle.std.proofs.Common.{◌≡◌, List, [], ◌∷◌, Result, Ok, Err, map, refl, subst, ◌∙◌}
use Rattle.std.specs.Prelude.{Contains, IfOk, MatchResult}
use Rattle.std.specs.List.{AllZip}

module _ {X Y : Type 0} (E : Type 0) (f : X → Y) where
  -- a result, if it is there, is that of the item
  abbrev pub IsResult : X → Result Y E → Type 0
  IsResult x r = IfOk r (λ y. y ≡ f x)

  -- values that are all there are those of the items
  all_there : (xs : List X) (ys : List Y) → AllZip IsResult xs (map Ok ys) → ys ≡ map f xs
  all_there [] [] each = refl
  all_there [] (y ∷ ys) each = absurd each
  all_there (x ∷ xs) [] each = absurd each
  all_there (x ∷ xs) (y ∷ ys) each = λ i. each.0 i ∷ all_there xs ys each.1 i

  -- what is gathered of results, if all are there
  pub gathered : {V : Type 0} (items : V → List Y) (xs : List X) (rs : List (Result Y E))
      (r : Result V E) → AllZip IsResult xs rs
      → MatchResult r (λ v. (ys : List Y) × (rs ≡ map Ok ys) × (items v ≡ ys))
      (λ e. Contains rs (Err e))
      → IfOk r (λ v. items v ≡ map f xs)
  gathered items xs rs (Ok v) each got =
      got.2 ∙ all_there xs got.0
      (subst (λ (l : List (Result Y E)). AllZip IsResult xs l) got.1 each)
  gathered items xs rs (Err e) each got = tt
