-- Members of what a test with a value keeps.
use Rattle.std.proofs.Common.{ap, ◌≡◌, ◌⊎◌, zero, suc, ◌<◌, List, [], ◌∷◌, Contains, Option, None, Some, refl, subst, ◌∙◌, inl, inr, ⊎_elim, arith}
use Rattle.genotype_bank.proofs.Prelude.{filter_map, cons_option, IsPermutation, Contains-permutation, Contains-get_or, Contains-append_right}

module _ {X : Type 0} where
  -- nothing is in the empty list
  pub Contains-nil : (x : X) → Contains [] x → ⊥
  Contains-nil x h = let l : h.0 < 0 = h.1 in absurd (omega arith)

  -- a member of a list is its first item or a member of the rest
  pub Contains-cons_cases : (y : X) (xs : List X) (x : X) → Contains (y ∷ xs) x
      → (y ≡ x) ⊎ Contains xs x
  Contains-cons_cases y xs x (zero, l, e) = inl e
  Contains-cons_cases y xs x (suc k, l, e) = inr (k, omega arith, e)

  -- a member of the rest is a member of the list
  pub Contains-cons : (y : X) (xs : List X) (x : X) → Contains xs x → Contains (y ∷ xs) x
  Contains-cons y xs x h = Contains-append_right (y ∷ []) xs x h

  -- the first item is a member
  pub Contains-here : (y : X) (xs : List X) (x : X) → y ≡ x → Contains (y ∷ xs) x
  Contains-here y xs x e = subst (Contains (y ∷ xs)) e (Contains-get_or (y ∷ xs) 0 y (omega arith))

module _ {X Y : Type 0} (f : X → Option Y) where
  -- the value that a member has is kept
  Contains-filter_map : (xs : List X) (x : X) (y : Y) → Contains xs x → f x ≡ Some y
      → Contains (filter_map f xs) y
  Contains-filter_map [] x y h e = absurd (Contains-nil x h)
  Contains-filter_map (z ∷ xs) x y h e = ⊎_elim
      (λ (i : z ≡ x). rw (i, e) (Contains-here y (filter_map f xs) y refl))
      (λ (r : Contains xs x). let k = Contains-filter_map xs x y r e in
      elim (f z) as (λ o. Contains (cons_option o (filter_map f xs)) y)
      [ None ↦ k | Some w ↦ Contains-cons w (filter_map f xs) y k ])
      (Contains-cons_cases z xs x h)

  -- a value that is kept is that of a member
  Contains-filter_map_cases : (xs : List X) (y : Y) → Contains (filter_map f xs) y
      → (x : X) × Contains xs x × (f x ≡ Some y)
  Contains-filter_map_cases [] y h = absurd (Contains-nil y h)
  Contains-filter_map_cases (z ∷ xs) y h = by (f z) refl h (λ r. Contains-filter_map_cases xs y r)
    where
      by : (o : Option Y) → f z ≡ o → Contains (cons_option o (filter_map f xs)) y
          → (Contains (filter_map f xs) y → (x : X) × Contains xs x × (f x ≡ Some y))
          → (x : X) × Contains (z ∷ xs) x × (f x ≡ Some y)
      by None e k again = let t = again k in (t.0, Contains-cons z xs t.0 t.1, t.2)
      by (Some w) e k again = ⊎_elim
          (λ (i : w ≡ y). (z, Contains-here z xs z refl, e ∙ ap Some i))
          (λ (r : Contains (filter_map f xs) y). let t = again r in
          (t.0, Contains-cons z xs t.0 t.1, t.2))
          (Contains-cons_cases w (filter_map f xs) y k)

  -- the same in any order
  pub Contains-filter_map_permuted : (xs ys : List X) (y : Y) → IsPermutation xs ys
      → Contains (filter_map f xs) y → Contains (filter_map f ys) y
  Contains-filter_map_permuted xs ys y p h =
      let t = Contains-filter_map_cases xs y h in
      Contains-filter_map ys t.0 y (Contains-permutation xs ys t.0 p t.1) t.2
