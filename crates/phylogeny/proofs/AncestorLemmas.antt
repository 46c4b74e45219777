-- The ancestors of an id: itself, and those of its parent.
use Rattle.std.proofs.Common.{◌≡◌, ℕ, zero, suc, ◌+◌, ◌-◌, ◌≤◌, List, [], ◌∷◌, length, Option, Some, None, unwrap_or, refl, sym, ap, ◌∙◌, arith}
use Rattle.phylogeny.proofs.Prelude.{last_or, option_map_or, ancestors_within, Older, line, line_is}

-- the line begins with the id
pub line_head : (parent_of : ℕ → Option ℕ) (n id : ℕ) → (others : List ℕ)
    × (ancestors_within n parent_of id ≡ id ∷ others)
line_head parent_of zero id = ([], refl)
line_head parent_of (suc n) id =
    (option_map_or (ancestors_within n parent_of) (parent_of id) [], refl)

-- a line of at most n generations back has at most n + 1 ids
pub line_length : (parent_of : ℕ → Option ℕ) (n id : ℕ)
    → length (ancestors_within n parent_of id) ≤ n + 1
line_length parent_of zero id = omega arith
line_length parent_of (suc n) id =
    let rest = elim (parent_of id) as
    (λ o. length (option_map_or (ancestors_within n parent_of) o []) ≤ n + 1) [
      | None ↦ omega arith
      | Some above ↦ line_length parent_of n above
    ] in
    omega (arith, rest)

module _ (parent_of : ℕ → Option ℕ) (older : Older parent_of) where
  -- the line of a founder, and that of a child
  line_of_founder : (id : ℕ) → parent_of id ≡ None → line parent_of id ≡ id ∷ []
  line_of_founder id is =
      line_is parent_of older id
      ∙ ap (λ (o : Option ℕ). id ∷ option_map_or (line parent_of) o []) is

  -- the line of a child is its id, and the line of its parent
  line_of_child : (id above : ℕ) → parent_of id ≡ Some above
      → line parent_of id ≡ id ∷ line parent_of above
  line_of_child id above is =
      line_is parent_of older id
      ∙ ap (λ (o : Option ℕ). id ∷ option_map_or (line parent_of) o []) is

-- how far a line leads up, and where it ends
abbrev pub depth_in : List ℕ → ℕ
depth_in ids = length ids - 1

-- the last id of a line, which is its founder, or 0 where there is none
abbrev pub founder_in : List ℕ → ℕ
founder_in ids = unwrap_or (last_or None ids) 0

-- with one id more before it a line is one generation deeper, and its founder is the same
longer : (id above : ℕ) (others : List ℕ)
    → (depth_in (id ∷ above ∷ others) ≡ depth_in (above ∷ others) + 1)
    × (founder_in (id ∷ above ∷ others) ≡ founder_in (above ∷ others))
longer id above others = (omega arith, refl)

module _ (parent_of : ℕ → Option ℕ) (older : Older parent_of) where
  -- a founder has depth 0 and is its own founder
  pub founder_root : (id : ℕ) → parent_of id ≡ None → (depth_in (line parent_of id) ≡ 0)
      × (founder_in (line parent_of id) ≡ id)
  founder_root id is =
      let e = line_of_founder parent_of older id is in (ap depth_in e, ap founder_in e)

  -- a child is one generation deeper than its parent, and has the same founder
  pub child_root : (id above : ℕ) → parent_of id ≡ Some above
      → (depth_in (line parent_of id) ≡ depth_in (line parent_of above) + 1)
      × (founder_in (line parent_of id) ≡ founder_in (line parent_of above))
  child_root id above is =
      let h = line_head parent_of above above in
      let e = line_of_child parent_of older id above is ∙ ap (λ (xs : List ℕ). id ∷ xs) h.1 in
      let more = longer id above h.0 in (
        ap depth_in e ∙ more.0 ∙ ap (λ n. n + 1) (sym (ap depth_in h.1)),
        ap founder_in e ∙ more.1
            ∙ sym (ap founder_in h.1),
      )

  -- the depth of an id is at most the id
  pub depth_bound : (id : ℕ) → depth_in (line parent_of id) ≤ id
  depth_bound id = omega (arith, line_length parent_of id id)
