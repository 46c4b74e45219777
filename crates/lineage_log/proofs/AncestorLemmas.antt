-- The line of an id: itself, its parent, and so on, by a function that gives each id its parent.
use Rattle.std.proofs.Common.{◌≡◌, ◌⊎◌, inl, inr, ⊎_elim, ◌∙◌, refl, sym, ap, ℕ, zero, suc, ◌+◌, ◌<◌, ◌≤◌, Bool, true, eqb, List, [], ◌∷◌, Option, Some, None, eq-eqb, eqb-true, arith}
use Rattle.std.specs.Prelude.{Contains}
use Rattle.lineage_log.proofs.Prelude.{list_any, option_map_or, or_cases, or_right, common_steps, Any-from_list_any, list_any_at, ancestors_within}

-- each parent has a lower id than its child
abbrev pub Older : (ℕ → Option ℕ) → Type 0
Older parent_of = (id above : ℕ) → parent_of id ≡ Some above → above < id

-- the line of an id
abbrev pub line : (ℕ → Option ℕ) → ℕ → List ℕ
line parent_of id = ancestors_within id parent_of id

-- an id stands in the line of another
abbrev pub stands : (ℕ → Option ℕ) → ℕ → ℕ → Bool
stands parent_of id other = list_any (λ ancestor. eqb ancestor id) (line parent_of other)

-- an id stands in the line of one of these
abbrev pub kept : (ℕ → Option ℕ) → List ℕ → ℕ → Bool
kept parent_of living id = list_any (stands parent_of id) living

-- nothing is there, or something
pub cases_Option : {A : Type 0} (o : Option A) → (o ≡ None) ⊎ ((a : A) × (o ≡ Some a))
cases_Option None = inl refl
cases_Option (Some a) = inr (a, refl)

-- what a test finds in a list
pub found_any : {X : Type 0} (p : X → Bool) (ids : List X) → list_any p ids ≡ true
    → (id : X) × Contains ids id × (p id ≡ true)
found_any p ids h =
    let a = Any-from_list_any p ids h in
    (a.1, (a.0, a.2, a.3), a.4)

-- one that passes a test settles it
pub any_found : {X : Type 0} (p : X → Bool) (ids : List X) (id : X) → Contains ids id
    → p id ≡ true → list_any p ids ≡ true
any_found p ids id is passes = list_any_at p ids is.0 id is.1 (ap p is.2 ∙ passes)

module _ (parent_of : ℕ → Option ℕ) (older : Older parent_of) where
  -- the least id has no parent
  no_parent : (id : ℕ) → id ≤ 0 → parent_of id ≡ None
  no_parent id least = grind (arith, common_steps, older id)

  -- more generations than the id has change nothing
  pub enough : (n m id : ℕ) → id ≤ n → id ≤ m
      → ancestors_within n parent_of id ≡ ancestors_within m parent_of id
  enough zero zero id a b = refl
  enough zero (suc m) id a b = rw (no_parent id a)
  enough (suc n) zero id a b = rw (no_parent id b)
  enough (suc n) (suc m) id a b = grind (arith, common_steps, older id, enough n m)

  -- the line of an id is itself, and the line of its parent
  pub line_is : (id : ℕ) → line parent_of id ≡ id ∷ option_map_or (line parent_of) (parent_of id) []
  line_is zero = rw (no_parent zero (omega arith))
  line_is (suc n) =
      grind (arith, common_steps, older (suc n), λ (above : ℕ). enough n above above)

  -- an id stands in its own line
  pub stands_itself : (id : ℕ) → stands parent_of id id ≡ true
  stands_itself id = rw (line_is id, eq-eqb id id refl)

  -- who stands in the line of a parent stands in the line of its child
  stands_child : (id child above : ℕ) → parent_of child ≡ Some above
      → stands parent_of id above ≡ true → stands parent_of id child ≡ true
  stands_child id child above is h = rw (line_is child, is) (or_right (eqb child id) _ h)

  -- who stands in a line is its end, or stands in the line of the end's parent
  stands_cases : (id other : ℕ) → stands parent_of id other ≡ true
      → (other ≡ id) ⊎ ((above : ℕ) × (parent_of other ≡ Some above)
      × (stands parent_of id above ≡ true))
  stands_cases id other h =
      elim (or_cases (eqb other id) _ (rw (line_is other) at h)) [
        | inl here ↦ inl (eqb-true other id here)
        | inr behind ↦ elim (cases_Option (parent_of other)) [
          | inl none ↦ absurd (let nobody = rw none at behind in cc)
          | inr some ↦ inr (some.0, some.1, rw some.1 at behind)
        ]
      ]

  -- with an id its parent stands in a line
  stands_parent_within : (n id above other : ℕ) → other < n → parent_of id ≡ Some above
      → stands parent_of id other ≡ true → stands parent_of above other ≡ true
  stands_parent_within zero id above other low is h = absurd (omega (arith, low))
  stands_parent_within (suc n) id above other low is h = ⊎_elim
      (λ here. stands_child above other above (ap parent_of here ∙ is) (stands_itself above))
      (λ behind. stands_child above other behind.0 behind.1
      (stands_parent_within n id above behind.0
      (omega (arith, low, older other behind.0 behind.1)) is behind.2))
      (stands_cases id other h)

  -- with an id its parent is kept
  pub kept_parent : (living : List ℕ) (id above : ℕ) → parent_of id ≡ Some above
      → kept parent_of living id ≡ true → kept parent_of living above ≡ true
  kept_parent living id above is h =
      let one = found_any (stands parent_of id) living h in
      any_found (stands parent_of above) living one.0 one.1
      (stands_parent_within (one.0 + 1) id above one.0 (omega arith) is one.2)

  -- who lives is kept
  pub kept_living : (living : List ℕ) (id : ℕ) → Contains living id
      → kept parent_of living id ≡ true
  kept_living living id lives = any_found (stands parent_of id) living id lives (stands_itself id)

-- some ids, with each also its parent, by a function that gives these the same parents
pub record AreLeft (before after : ℕ → Option ℕ) (has : ℕ → Bool) : Type 0 where
  pub same : (id : ℕ) → has id ≡ true → after id ≡ before id
  pub closed : (id above : ℕ) → has id ≡ true → before id ≡ Some above → has above ≡ true

module _ (before after : ℕ → Option ℕ) (has : ℕ → Bool) (older : Older before)
    (left : AreLeft before after has) where
  -- who stands in the line of one of them is one of them
  stands_left_within : (n id other : ℕ) → other < n → has other ≡ true
      → stands before id other ≡ true → has id ≡ true
  stands_left_within zero id other low is h = absurd (omega (arith, low))
  stands_left_within (suc n) id other low is h = ⊎_elim
      (λ here. sym (ap has here) ∙ is)
      (λ behind. stands_left_within n id behind.0
      (omega (arith, low, older other behind.0 behind.1))
      (left.closed other behind.0 is behind.1) behind.2)
      (stands_cases before older id other h)

  -- each has the ancestors that it had
  pub same_ancestors : (n id : ℕ) → has id ≡ true
      → ancestors_within n after id ≡ ancestors_within n before id
  same_ancestors zero id is = refl
  same_ancestors (suc n) id is =
      grind (arith, common_steps, left.same id is, left.closed id, same_ancestors n)

  -- who is kept by some of them is one of them
  pub kept_left : (living : List ℕ) (id : ℕ) → ((one : ℕ) → Contains living one → has one ≡ true)
      → kept before living id ≡ true → has id ≡ true
  kept_left living id lives h =
      let one = found_any (stands before id) living h in
      stands_left_within (one.0 + 1) id one.0 (omega arith) (lives one.0 one.1) one.2

-- each of some ids lives or has a child among them
abbrev pub AreWanted : (ℕ → Option ℕ) → (ℕ → Bool) → List ℕ → Type 0
AreWanted parent_of has living =
    (id : ℕ) → has id ≡ true → Contains living id
    ⊎ ((child : ℕ) × (has child ≡ true) × (parent_of child ≡ Some id))

module _ (parent_of : ℕ → Option ℕ) (has : ℕ → Bool) (living : List ℕ) (older : Older parent_of)
    (wanted : AreWanted parent_of has living) where
  -- each of them is kept, by one that lives
  pub wanted_kept : (n bound id : ℕ) → ((one : ℕ) → has one ≡ true → one < bound) → bound ≤ id + n
      → has id ≡ true → kept parent_of living id ≡ true
  wanted_kept zero bound id low near is = absurd (omega (arith, low id is, near))
  wanted_kept (suc n) bound id low near is = ⊎_elim
      (λ lives. kept_living parent_of older living id lives)
      (λ child. kept_parent parent_of older living child.0 id child.2
      (wanted_kept n bound child.0 low (omega (arith, near, older child.0 id child.2)) child.1))
      (wanted id is)
