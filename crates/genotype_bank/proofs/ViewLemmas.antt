-- Facts of all views, after one has changed or come.
use Rattle.std.proofs.Common.{◌≡◌, ◌≢◌, ◌⊎◌, ℕ, zero, suc, ◌+◌, ◌<◌, ◌≤◌, List, [], ◌∷◌, ◌++◌, length, set, refl, sym, ap, ◌∙◌, subst, inl, inr, ⊎_elim, arith}
use Rattle.genotype_bank.proofs.Prelude.{some, some-ne-none, some-injective, dite, ℕ_discrete, get_elem?, at_set, at_snoc, set_here, set_else, at_longer, View, Entry, total, seat_share, AtMostOne, SomeSeat, NumbersArePlaces, AreSeats, Carries}

-- a place that has something is in the list
pub within : {A : Type 0} (l : List A) (i : ℕ) (a : A) → get_elem? l i ≡ some a → i < length l
within [] i a e = absurd cc
within (x ∷ xs) zero a e = omega arith
within (x ∷ xs) (suc i) a e = omega (arith, within xs i a e)

-- a place has one item
pub one_there : {A : Type 0} (l : List A) (i : ℕ) (a b : A) → get_elem? l i ≡ some a
    → get_elem? l i ≡ some b → a ≡ b
one_there l i a b e f = some-injective a b (sym e ∙ f)

-- a sum over all seats, once one of them is replaced
pub total_set : (f : View → ℕ) (views : List View) (id : ℕ) (v w : View)
    → get_elem? views id ≡ some v → total f (set views id w) + f v ≡ total f views + f w
total_set f [] id v w e = absurd (some-ne-none v (sym e))
total_set f (x ∷ xs) zero v w e = let h = ap f (some-injective x v e) in omega arith
total_set f (x ∷ xs) (suc id) v w e = let h = total_set f xs id v w e in omega arith

-- a sum over all seats, once one more has come
pub total_snoc : (f : View → ℕ) (views : List View) (w : View)
    → total f (views ++ w ∷ []) ≡ total f views + f w
total_snoc f [] w = omega arith
total_snoc f (x ∷ xs) w = let h = total_snoc f xs w in omega arith

-- a sum over all seats is no more than another, if no seat's part is
pub total_le : (f g : View → ℕ) (views : List View)
    → ((j : ℕ) (v : View) → get_elem? views j ≡ some v → f v ≤ g v) → total f views ≤ total g views
total_le f g [] h = omega arith
total_le f g (x ∷ xs) h =
    let a = h 0 x refl in let b = total_le f g xs (λ j v e. h (suc j) v e) in omega arith

-- what holds of all other seats and of a new one holds of all once it replaces one
pub each_set : (P : ℕ → View → Type 0) (views : List View) (id : ℕ) (w : View)
    → ((j : ℕ) (u : View) → j ≢ id → get_elem? views j ≡ some u → P j u) → P id w
    → (j : ℕ) (u : View) → get_elem? (set views id w) j ≡ some u → P j u
each_set P views id w others mine j u e = elim (at_set views id j w u e) [
  | inl x ↦ rw (x.0, ← x.1) mine
  | inr x ↦ others j u x.0 x.1
]

-- what holds of each seat and of one more holds of all with it
pub each_snoc : (P : View → Type 0) (views : List View) (w : View)
    → ((j : ℕ) (u : View) → get_elem? views j ≡ some u → P u) → P w → (j : ℕ) (u : View)
    → get_elem? (views ++ w ∷ []) j ≡ some u → P u
each_snoc P views w others mine j u e = elim (at_snoc views w u j e) [
  | inl x ↦ others j u x
  | inr x ↦ subst P x mine
]

-- at the end or before
pub at_end : {A : Type 0} (l : List A) (a b : A) (j : ℕ) → get_elem? (l ++ a ∷ []) j ≡ some b
    → (get_elem? l j ≡ some b) ⊎ ((j ≡ length l) × (a ≡ b))
at_end [] a b zero e = inr (refl, some-injective a b e)
at_end [] a b (suc j) e = absurd cc
at_end (x ∷ xs) a b zero e = inl e
at_end (x ∷ xs) a b (suc j) e = ⊎_elim (λ t. inl t) (λ t. inr (ap suc t.0, t.1)) (at_end xs a b j e)

-- at most one seat is so once one is replaced, if the new one is so only where no other is
pub only_set : (P : View → Type 0) (views : List View) (id : ℕ) (w : View) → AtMostOne P views
    → (P w → (k : ℕ) (y : View) → k ≢ id → get_elem? views k ≡ some y → P y → ⊥)
    → AtMostOne P (set views id w)
only_set P views id w only new j k x y ej ek px py = elim (at_set views id j w x ej) [
  | inl a ↦ elim (at_set views id k w y ek) [
    | inl b ↦ a.0 ∙ sym b.0
    | inr b ↦ absurd (new (subst P (sym a.1) px) k y b.0 b.1 py)
  ]
  | inr a ↦ elim (at_set views id k w y ek) [
    | inl b ↦ absurd (new (subst P (sym b.1) py) j x a.0 a.1 px)
    | inr b ↦ only j k x y a.1 b.1 px py
  ]
]

-- the same where the view was so before
pub only_keep : (P : View → Type 0) (views : List View) (id : ℕ) (v w : View)
    → get_elem? views id ≡ some v → AtMostOne P views → (P w → P v) → AtMostOne P (set views id w)
only_keep P views id v w at only back =
    only_set P views id w only (λ pw k y ne e py. ne (only k id y v e at py (back pw)))

-- at most one seat is so once one more has come, if it is so only where no other is
pub only_snoc : (P : View → Type 0) (views : List View) (w : View) → AtMostOne P views
    → (P w → (k : ℕ) (y : View) → get_elem? views k ≡ some y → P y → ⊥)
    → AtMostOne P (views ++ w ∷ [])
only_snoc P views w only new j k x y ej ek px py = elim (at_end views w x j ej) [
  | inl a ↦ elim (at_end views w y k ek) [
    | inl b ↦ only j k x y a b px py
    | inr b ↦ absurd (new (subst P (sym b.1) py) j x a px)
  ]
  | inr a ↦ elim (at_end views w y k ek) [
    | inl b ↦ absurd (new (subst P (sym a.1) px) k y b py)
    | inr b ↦ a.0 ∙ sym b.0
  ]
]

-- some seat is so still once one is replaced, if the new one is so where the old one was
pub some_set : (P : View → Type 0) (views : List View) (id : ℕ) (v w : View)
    → get_elem? views id ≡ some v → (P v → P w) → SomeSeat P views → SomeSeat P (set views id w)
some_set P views id v w at on (j, u, e, p) =
    dite (ℕ_discrete j id)
    (λ is. let here = set_here views id w (within views id v at) in
    (id, w, here, on (subst P (one_there views id u v (rw is at e) at) p)))
    (λ ne. (j, u, set_else views id j w ne ∙ e, p))

-- some seat is so still once one more has come
pub some_snoc : (P : View → Type 0) (views : List View) (w : View) → SomeSeat P views
    → SomeSeat P (views ++ w ∷ [])
some_snoc P views w (j, u, e, p) = (j, u, at_longer views (w ∷ []) j u e, p)

-- numbers are places still with a seat replaced, if the new one's are and a spent one stays so
pub placed_set : (views : List View) (id : ℕ) (v w : View) → get_elem? views id ≡ some v
    → (0 < w.share → 0 < v.share)
    → ((n : ℕ) → Carries w n → (u : View) × (get_elem? views n ≡ some u) × (0 < u.share → id ≡ n))
    → NumbersArePlaces views → NumbersArePlaces (set views id w)
placed_set views id v w at alive new placed j x n e c =
    let mine = set_here views id w (within views id v at) in
    let old : (j' : ℕ) → ((u : View) × (get_elem? views n ≡ some u) × (0 < u.share → j' ≡ n))
    → j' ≡ j → (u : View) × (get_elem? (set views id w) n ≡ some u) × (0 < u.share → j ≡ n) =
    λ j' p is.
    dite (ℕ_discrete n id)
    (λ here. let v_is = one_there views id v p.0 at (rw here at p.1) in
    (w, rw here mine, λ pos. sym is ∙ p.2 (subst (λ (u : View). 0 < u.share) v_is (alive pos))))
    (λ ne. (p.0, set_else views id n w ne ∙ p.1, λ pos. sym is ∙ p.2 pos)) in
    elim (at_set views id j w x e) [
      | inl a ↦ old id (new n (subst (λ (u : View). Carries u n) (sym a.1) c)) (sym a.0)
      | inr a ↦ old j (placed j x n a.1 c) refl
    ]

-- numbers are places still with a seat replaced by one without new numbers, spent if it was
pub placed_keep : (views : List View) (id : ℕ) (v w : View) → get_elem? views id ≡ some v
    → (0 < w.share → 0 < v.share) → ((n : ℕ) → Carries w n → Carries v n) → NumbersArePlaces views
    → NumbersArePlaces (set views id w)
placed_keep views id v w at alive back placed =
    placed_set views id v w at alive (λ n c. placed id v n at (back n c)) placed

-- numbers are places still once a seat has come that carries none
pub placed_snoc : (views : List View) (w : View) → ((n : ℕ) → Carries w n → ⊥)
    → NumbersArePlaces views → NumbersArePlaces (views ++ w ∷ [])
placed_snoc views w none placed j x n e c = elim (at_end views w x j e) [
  | inl a ↦ let p = placed j x n a c in (p.0, at_longer views (w ∷ []) n p.0 p.1, p.2)
  | inr a ↦ absurd (none n (subst (λ (u : View). Carries u n) (sym a.1) c))
]

-- the seats once a view was replaced by one of the same share and numbers, of any history whose
-- calls are carried and that some seat has seen
pub seats_kept : (history later : List Entry) (views : List View) (id : ℕ) (v w : View)
    → get_elem? views id ≡ some v → w.share ≡ v.share → w.carried ≡ v.carried
    → AreSeats history views
    → ((k : ℕ) (e : Entry) → get_elem? later k ≡ some e
    → SomeSeat (λ u. Carries u e.seat) (set views id w))
    → SomeSeat (λ u. u.seen ≡ later) (set views id w) → AreSeats later (set views id w)
seats_kept history later views id v w at share carried seats called known =
    let back : (n : ℕ) → Carries w n → Carries v n = λ n c. rw (← carried) c in
    record {
      shares = omega (arith, total_set seat_share views id v w at, share, seats.shares);
      apart = λ n. only_keep (λ (u : View). Carries u n) views id v w at (seats.apart n) (back n);
      placed = placed_keep views id v w at (subst (λ (n : ℕ). 0 < n) share) back seats.placed;
      called = called;
      known = known;
    }

-- a seat's part is no more than the sum over all seats
pub total_ge : (f : View → ℕ) (views : List View) (j : ℕ) (u : View) → get_elem? views j ≡ some u
    → f u ≤ total f views
total_ge f [] j u e = absurd (some-ne-none u (sym e))
total_ge f (x ∷ xs) zero u e = let h = ap f (some-injective x u e) in omega arith
total_ge f (x ∷ xs) (suc j) u e = let h = total_ge f xs j u e in omega arith

-- writes at two different places may be done in either order
pub set_swap : {A : Type 0} (l : List A) (i j : ℕ) (a b : A) → j ≢ i
    → set (set l i a) j b ≡ set (set l j b) i a
set_swap (x ∷ xs) zero zero a b ne = absurd (ne refl)
set_swap (x ∷ xs) (suc i) (suc j) a b ne = rw (set_swap xs i j a b (λ e. ne (ap suc e)))
set_swap _ _ _ a b ne = refl
