-- What is kept of the organisms that were told, with one organism more.
use Rattle.std.proofs.Common.{◌≡◌, ℕ, zero, suc, ◌+◌, ◌≤◌, ◌==◌, Bool, true, List, [], ◌∷◌, ◌++◌, Some, length, refl, ap, arith, inl, inr}
use Rattle.std.specs.Prelude.{◌⊎◌, ◌&&◌, not, nat_le, nat_lt, slice_get}
use Rattle.checkpoint.proofs.Prelude.{list_all, nat_cmp, BTreeSet, contains, Updates, nat_tests, All-append, All-cons, AllPass-from_list_all, get_or_from_slice_get, slice_get_within, HeadValues, Placed, is_above, is_new, AreSaved, MayStandThere}
use Rattle.std.specs.BTreeMap.{is_at}
use Rattle.std.proofs.lemmas.List.Folds.{list_all-append}

-- a key is at another exactly where they are one number
pub at_key : (a b : ℕ) → is_at (nat_cmp a) b ≡ (a == b)
at_key a b = grind (arith, nat_tests)

-- a test of all items and one more
all_more : {X : Type 0} (test : X → Bool) (items : List X) (item : X)
    → list_all test (items ++ item ∷ []) ≡ (list_all test items && (test item && true))
all_more test items item = list_all-append test items (item ∷ [])

module _ (placed : List Placed) (one : Placed) where
  -- above one more organism is what is above the others and it
  pub above_more : (next : ℕ) → ((cell : ℕ) → is_above cell placed ≡ nat_le next cell)
      → next ≤ one.cell → (cell : ℕ)
      → is_above cell (placed ++ one ∷ []) ≡ nat_le (one.cell + 1) cell
  above_more next above fits cell =
      rw (all_more (λ (p : Placed). nat_lt p.cell cell) placed one, above cell)
      (grind (arith, nat_tests, fits))

  -- new beside one more organism is what is new beside the others and has not its id
  pub new_more : (ids more : BTreeSet ℕ)
      → ((id : ℕ) → is_new id placed ≡ not (contains nat_cmp ids id))
      → Updates nat_cmp ids more one.occupant.id true → (id : ℕ)
      → is_new id (placed ++ one ∷ []) ≡ not (contains nat_cmp more id)
  new_more ids more fresh updates id =
      rw (
        all_more (λ (p : Placed). not (p.occupant.id == id)) placed one,
        fresh id,
        updates.0 id,
        at_key one.occupant.id id,
      ) (grind (arith, nat_tests))

-- what stands at a place of a list with one item more
at_more : {X : Type 0} (items : List X) (item other : X) (place : ℕ)
    → slice_get (items ++ item ∷ []) place ≡ Some other
    → (slice_get items place ≡ Some other) ⊎ ((length items ≡ place) × (item ≡ other))
at_more [] item other zero is = inr (refl, cc)
at_more [] item other (suc place) is = absurd cc
at_more (x ∷ items) item other zero is = inl is
at_more (x ∷ items) item other (suc place) is = elim (at_more items item other place is)
    [ inl before ↦ inl before | inr last ↦ inr (ap suc last.0, last.1) ]

-- one organism more, above the others and with a new id
pub saved_more : (head : HeadValues) (placed : List Placed) (one : Placed) → AreSaved head placed
    → MayStandThere head one → is_above one.cell placed ≡ true
    → is_new one.occupant.id placed ≡ true → AreSaved head (placed ++ one ∷ [])
saved_more head placed one saved stands above fresh = record {
  values = saved.values;
  each = All-append (MayStandThere head) placed (one ∷ []) saved.each
      (All-cons (MayStandThere head) one [] stands (λ k d none. absurd (omega (arith, none))));
  rising = λ place next first second before at_place at_next.
      elim (at_more placed one second next at_next) [
        | inl within ↦ (let early = slice_get_within placed next second within in
            elim (at_more placed one first place at_place) [
              | inl other ↦ saved.rising place next first second before other within
              | inr last ↦ absurd (omega (arith, last.0, early, before))
            ])
        | inr last ↦ elim (at_more placed one first place at_place) [
          | inl other ↦
              (let there = slice_get_within placed place first other in
              let same = get_or_from_slice_get placed place first first other in
              let lower = rw same at (AllPass-from_list_all {X = Placed}
              (λ p. nat_lt p.cell one.cell) placed above place first there) in
              let new = rw same at (AllPass-from_list_all {X = Placed}
              (λ p. not (p.occupant.id == one.occupant.id)) placed fresh place first there) in
              rw (← last.1) (
                grind (arith, nat_tests, lower),
                λ same. grind (arith, nat_tests, new, same),
              ))
          | inr again ↦ absurd (omega (arith, last.0, again.0, before))
        ]
      ];
}
