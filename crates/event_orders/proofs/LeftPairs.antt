-- What each seat has still to intern, and that it is one newborn less after its next call.
use Rattle.std.proofs.Common.{◌≡◌, ◌⊎◌, ℕ, ◌<◌, true, false, List, [], ◌∷◌, length, Contains, refl, sym, subst, ◌∙◌, inl, inr}
use Rattle.std.specs.Prelude.{IsSome, slice_index_or}
use Rattle.event_orders.proofs.Prelude.{Letter, ConfigValues, Intern, State, newborn_genomes, result_of, with_value_at, state_after_event}
use Rattle.event_orders.proofs.Members.{Contains-cons, Contains-cons_cases, Contains-here}
use Rattle.event_orders.proofs.Going.{at_either}
use Rattle.event_orders.proofs.Pairs.{Pair, Apart}
use Rattle.event_orders.proofs.Marks.{marked, marked_same, marked_other, marked_kept}

-- the genome of a newborn
abbrev pub newborn : State → Pair → List Letter
newborn s p = slice_index_or (newborn_genomes (result_of s p.0)) p.1 []

-- what each seat has still to intern
pub record Left (s : State) (rest : ℕ → List Pair) : Type 0 where
  pub ran : (c : ℕ) → c < length s.world.cells → IsSome (s.results c)
  pub valid : (j : ℕ) (p : Pair) → Contains (rest j) p → IsSome (s.results p.0)
      × (p.1 < length (newborn_genomes (result_of s p.0))) × (s.interned p.0 p.1 ≡ false)
  pub apart : (j : ℕ) → Apart (rest j)
  pub disjoint : (i j : ℕ) (p : Pair) → (i ≡ j → ⊥) → Contains (rest i) p → Contains (rest j) p → ⊥
  pub whole : (c k : ℕ) → c < length s.world.cells → k < length (newborn_genomes (result_of s c))
      → (s.interned c k ≡ true) ⊎ ((j : ℕ) × Contains (rest j) (c, k))

-- a seat has interned the first of its list
module _ (rest : ℕ → List Pair) (i : ℕ) (p : Pair) (ps : List Pair) (is : rest i ≡ p ∷ ps) where
  -- what is left was left before
  in_old : (j : ℕ) (q : Pair) → Contains (with_value_at rest i ps j) q → Contains (rest j) q
  in_old j q = at_either (λ (l : List Pair). Contains l q → Contains (rest j) q) rest i j ps
      (λ e m. rw (e, is) (Contains-cons p ps q m)) (λ n m. m)

  -- the first was left
  pub head_in : Contains (rest i) p
  head_in = rw is (Contains-here p ps p refl)

  -- what was left is the first or is left
  in_new : (j : ℕ) (q : Pair) → Contains (rest j) q
      → (p ≡ q) ⊎ Contains (with_value_at rest i ps j) q
  in_new j q =
      at_either (λ (l : List Pair). Contains (rest j) q → (p ≡ q) ⊎ Contains l q) rest i j ps
      (λ e m. Contains-cons_cases p ps q (rw (e, is) at m)) (λ n m. inr m)

  -- the first isn't left
  not_head : Apart (rest i) → ((j : ℕ) (q : Pair) → (i ≡ j → ⊥) → Contains (rest i) q
      → Contains (rest j) q → ⊥)
      → (j : ℕ) (q : Pair) → Contains (with_value_at rest i ps j) q → p ≡ q → ⊥
  not_head apart disjoint j q =
      at_either (λ (l : List Pair). Contains l q → p ≡ q → ⊥) rest i j ps
      (λ f m e. (subst Apart is apart).0 (subst (Contains ps) (sym e) m))
      (λ n m e. disjoint j q (λ f. n (sym f)) (subst (Contains (rest i)) e head_in) m)

  -- what is left stands once
  apart_next : ((j : ℕ) → Apart (rest j)) → (j : ℕ) → Apart (with_value_at rest i ps j)
  apart_next apart j =
      at_either Apart rest i j ps (λ e. (subst Apart is (apart i)).1) (λ n. apart j)

module _ (config : ConfigValues) where
  -- the first of a seat's list was interned
  pub left_next : (s : State) (rest : ℕ → List Pair) (i : ℕ) (p : Pair) (ps : List Pair)
      → rest i ≡ p ∷ ps → Left s rest
      → Left (state_after_event config s (Intern i p.0 p.1)) (with_value_at rest i ps)
  left_next s rest i p ps is h = record {
    ran = h.ran;
    valid = λ j q m.
        let v = h.valid j q (in_old rest i p ps is j q m) in (
          v.0,
          v.1,
          marked_other s.interned p q.0 q.1
              (λ e. not_head rest i p ps is (h.apart i) (h.disjoint i) j q m
              (λ k. (sym e.0 k, sym e.1 k))) ∙ v.2,
        );
    apart = apart_next rest i p ps is h.apart;
    disjoint =
        λ a b q n l m. h.disjoint a b q n (in_old rest i p ps is a q l)
        (in_old rest i p ps is b q m);
    whole = λ c k l n. elim (h.whole c k l n) [
      | inl e ↦ inl (marked_kept s.interned p c k e)
      | inr r ↦ elim (in_new rest i p ps is r.0 (c, k) r.1) [
        | inl e ↦ inl (subst (λ (q : Pair). marked s.interned p q.0 q.1 ≡ true) e
            (marked_same s.interned p))
        | inr m ↦ inr (r.0, m)
      ]
    ];
  }
