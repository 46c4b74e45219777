-- Members of lists that are made of others.
use Rattle.std.proofs.Common.{◌≡◌, ◌++◌, Some, ℕ, ◌<◌, List, [], ◌∷◌, length, map, Contains, refl, sym, ◌∙◌, inl, inr, arith, length-append}
use Rattle.std.specs.Prelude.{◌-◌}
use Rattle.event_orders.proofs.Prelude.{flat_map, range_with_len, Contains-append_left, Contains-append_right, Contains-append_cases, length-map-range_with_len, get_or-map-range_with_len, slice_get_within, get_pushed, last_of}
pub use Rattle.genotype_bank.proofs.MemberLemmas.{Contains-nil, Contains-cons_cases, Contains-cons, Contains-here}

module _ {X A : Type 0} (f : X → List A) where
  -- a member of what one of the items gives is a member of all that they give
  pub Contains-flat_map : (xs : List X) (x : X) (a : A) → Contains xs x → Contains (f x) a
      → Contains (flat_map f xs) a
  Contains-flat_map [] x a h k = absurd (Contains-nil x h)
  Contains-flat_map (y ∷ xs) x a h k = elim (Contains-cons_cases y xs x h) [
    | inl e ↦ Contains-append_left (f y) (flat_map f xs) a (rw e k)
    | inr r ↦ Contains-append_right (f y) (flat_map f xs) a (Contains-flat_map xs x a r k)
  ]

  -- each such member is of what some item gives
  pub Contains-flat_map_cases : (xs : List X) (a : A) → Contains (flat_map f xs) a → (x : X)
      × Contains xs x × Contains (f x) a
  Contains-flat_map_cases [] a h = absurd (Contains-nil a h)
  Contains-flat_map_cases (y ∷ xs) a h = elim (Contains-append_cases (f y) (flat_map f xs) a h) [
    | inl e ↦ (y, Contains-here y xs y refl, e)
    | inr r ↦ let t = Contains-flat_map_cases xs a r in (t.0, Contains-cons y xs t.0 t.1, t.2)
  ]

-- the members of a list made from a function of the index
module _ {X : Type 0} (f : ℕ → X) (n : ℕ) where
  -- what the function gives at an index is a member
  pub Contains-from_fn : (k : ℕ) → k < n → Contains (map f (range_with_len 0 n)) (f k)
  Contains-from_fn k h = (
    k,
    omega (arith, length-map-range_with_len f 0 n),
    get_or-map-range_with_len f 0 n k k (f k) h (omega arith),
  )

  -- each member is what it gives at some index
  pub Contains-from_fn_cases : (x : X) → Contains (map f (range_with_len 0 n)) x → (k : ℕ) × (k < n)
      × (f k ≡ x)
  Contains-from_fn_cases x h =
      let l : h.0 < n = omega (arith, h.1, length-map-range_with_len f 0 n) in
      (h.0, l, sym (get_or-map-range_with_len f 0 n h.0 h.0 x l (omega arith)) ∙ h.2)

-- the last item of a list with one item more
pub last_pushed : {X : Type 0} (xs : List X) (x y : X) → last_of (xs ++ x ∷ []) ≡ Some y → x ≡ y
last_pushed xs x y h =
    let end = length (xs ++ x ∷ []) - 1 in
    elim (get_pushed xs x y end h) [
      | inl before ↦
          absurd (omega (arith, slice_get_within xs end y before, length-append xs (x ∷ [])))
      | inr last ↦ last.1
    ]
