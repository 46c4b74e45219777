-- Lawful events have the calls that the seats have still to make, in any order of the seats.
use Rattle.std.proofs.Common.{◌≡◌, ◌≢◌, ℕ, List, [], ◌∷◌, ◌++◌, map, refl, sym, ◌∙◌, append_assoc, append-nil, inl, inr, ap, arith, length}
use Rattle.std.specs.Prelude.{◌==◌, filter}
use Rattle.event_orders.proofs.Prelude.{eq-eqb, ne_eqb, length-map, Entry, ConfigValues, Intern, State, genome_entry, with_value_at, MayGather, state_after_event}
use Rattle.event_orders.proofs.Going.{at_either, Any, Goes, goes_one, goes_on, goes_none}
use Rattle.event_orders.proofs.Pairs.{Pair}
use Rattle.event_orders.proofs.LeftPairs.{Left, head_in, left_next, newborn}

-- the calls of a seat
abbrev pub own : ℕ → List Entry → List Entry
own j calls = filter (λ call. call.seat == j) calls

-- the calls that a seat has still to make
abbrev pub due : State → (ℕ → List Pair) → ℕ → List Entry
due s rest j = map (λ p. genome_entry j (newborn s p)) (rest j)

module _ (config : ConfigValues) where
  -- lawful events lead to this history, where the update may end
  abbrev pub Explained : State → List Entry → Type 0
  Explained s calls =
      (t : State) × Goes config Any s 0 t × (t.history ≡ s.history ++ calls) × MayGather t

  -- if each seat makes the calls that it has still to make, in its order
  pub explained : (calls : List Entry) (s : State) (rest : ℕ → List Pair) → Left s rest
      → ((j : ℕ) → own j calls ≡ due s rest j) → Explained s calls
  explained [] s rest h own_is = (
    s,
    goes_none config Any s,
    sym (append-nil s.history),
    record {
      every_cell = h.ran;
      every_newborn = λ c k l n. elim (h.whole c k l n) [
        | inl e ↦ e
        | inr r ↦
            let none = length-map (rest r.0) (λ p. genome_entry r.0 (newborn s p)) in
            absurd (omega (arith, r.1.1, none, ap length (own_is r.0)))
      ];
    },
  )
  explained (x ∷ calls) s rest h own_is =
      by (rest x.seat) refl (sym here ∙ own_is x.seat) (λ u left l o. explained calls u left l o)
    where
      here : own x.seat (x ∷ calls) ≡ x ∷ own x.seat calls
      here = rw (eq-eqb x.seat x.seat refl) refl

      elsewhere : (j : ℕ) → j ≢ x.seat → own j (x ∷ calls) ≡ own j calls
      elsewhere j n = rw (ne_eqb x.seat j (λ e. n (sym e))) refl

      by : (l : List Pair) → rest x.seat ≡ l → x ∷ own x.seat calls ≡ due s rest x.seat
          → ((u : State) (left : ℕ → List Pair) → Left u left
          → ((j : ℕ) → own j calls ≡ due u left j) → Explained u calls)
          → Explained s (x ∷ calls)
      by [] is e again = let none = rw is at e in absurd cc
      by (p ∷ ps) is e again =
          let s1 = state_after_event config s (Intern x.seat p.0 p.1) in
          let v = h.valid x.seat p (head_in rest x.seat p ps is) in
          let both = rw is at e in
          let first : x ≡ genome_entry x.seat (newborn s p) = cc in
          let others : own x.seat calls ≡ map (λ p. genome_entry x.seat (newborn s p)) ps = cc in
          let go = again s1 (with_value_at rest x.seat ps)
          (left_next config s rest x.seat p ps is h)
          (λ j. at_either (λ l. own j calls ≡ map (λ p. genome_entry j (newborn s p)) l) rest x.seat j
          ps (λ f. rw f others) (λ n. sym (elsewhere j n) ∙ own_is j)) in (
            go.0,
            goes_on config Any s s1 go.0 0 0 (goes_one config Any s (Intern x.seat p.0 p.1)
                v tt) go.1,
            rw (go.2, append_assoc s.history (genome_entry x.seat (newborn s p) ∷ []) calls, first)
                refl,
            go.3,
          )
