-- The steps of one interning, put together.
use Rattle.std.proofs.Common.{arith, ◌≡◌, ℕ, List, [], ◌∷◌, ◌++◌, true, inl, inr, refl, sym, ap, ◌∙◌, eq-eqb, Option, append_assoc}
use Rattle.genotype_bank.proofs.Prelude.{cases_Bool, common_steps, IsPrefix, IsPermutation, IsPermutation-refl, IsPermutation-trans, IsPermutation-cons, IsPermutation-middle, Catalog, View, Entry, Call, entry, is_among, calls_under, genotypes_of, with_call, MakesCall, SeatValue, all_shares, idle_view, with_ticket, at_turn, last_drawn_number, genomes_in, last_call, seat_of, Seated}
use Rattle.genotype_bank.proofs.HistoryLemmas.{has_app, not_so}
use Rattle.atomic_table.specs.Seated.{TableId}
use Rattle.genotype_bank.proofs.DifferentLemmas.{OneList, genotypes_of_push}

-- a call under one of some numbers at the end of a history is the last under them
pub own_end : (c : List ℕ) (h : List Entry) (e : Entry) → is_among e.seat c ≡ true
    → calls_under c (h ++ e ∷ []) ≡ calls_under c h ++ e ∷ []
own_end c [] e is = rw is
own_end c (x ∷ h) e is = grind (arith, common_steps, own_end c h e is)

-- a seat has seen a longer history that ends with this call, and it is the seat's one call more
abbrev pub Grows : View → View → Call → Type 0
Grows v w call = (n : ℕ) × (h : List Entry) × IsPrefix v.seen h × (w.seen ≡ h ++ entry n call ∷ [])
    × (calls_under w.carried w.seen ≡ calls_under v.carried v.seen ++ entry n call ∷ [])

-- so it is of a seat that drew under a number, then saw the history and added its call
grown : (v : View) (j t : ℕ) (history : List Entry) (call : Call)
    → calls_under (j ∷ v.carried) v.seen ≡ calls_under v.carried v.seen
    → IsPrefix v.seen history
    → calls_under (j ∷ v.carried) history ≡ calls_under (j ∷ v.carried) v.seen
    → Grows v (idle_view v.share (j ∷ v.carried) (history ++ entry j call ∷ [])) call
grown v j t history call first pre same = (
  j,
  history,
  pre,
  refl,
  rw (own_end (j ∷ v.carried) history (entry j call) (rw (eq-eqb j j refl)), same, first),
)

-- so it is of a seat after a draw, a turn and a release
pub grows : (v : View) (j t : ℕ) (history : List Entry) (call : Call)
    (c0 c1 : List (ℕ × Option Catalog)) (a b d : Seated) → a ≡ (with_ticket v j t, c0)
    → b ≡ (at_turn a.0 history, c1)
    → d ≡ (
      idle_view b.0.share b.0.carried
          (b.0.seen ++ entry (last_drawn_number b.0) call ∷ []),
      [],
    )
    → calls_under (j ∷ v.carried) v.seen ≡ calls_under v.carried v.seen → IsPrefix a.0.seen history
    → calls_under a.0.carried history ≡ calls_under a.0.carried a.0.seen → Grows v d.0 call
grows v j t history call c0 c1 a b d e1 e2 e3 first pre same =
    rw (e3, e2, e1) (grown v j t history call first (rw e1 at pre) (rw e1 at same))

-- the calls of two seats that share no number
pub own_both : (c d : List ℕ) (h : List Entry)
    → ((n : ℕ) → is_among n c ≡ true → is_among n d ≡ true → ⊥)
    → IsPermutation (calls_under c h ++ calls_under d h) (calls_under (c ++ d) h)
own_both c d [] no' = IsPermutation-refl []
own_both c d (e ∷ es) no' =
    let p = own_both c d es no' in
    rw (has_app e.seat c d) (elim (cases_Bool (is_among e.seat c)) [
      | inl a ↦ rw (a, not_so (is_among e.seat d) (no' e.seat a)) (IsPermutation-cons e _ _ p)
      | inr a ↦ elim (cases_Bool (is_among e.seat d)) [
        | inl b ↦ rw (a, b) (IsPermutation-trans _ _ _
            (IsPermutation-middle (calls_under c es) e (calls_under d es))
            (IsPermutation-cons e _ _ p))
        | inr b ↦ rw (a, b) p
      ]
    ])

-- the steps of one call, put together, where a whole seat owned all that it had seen and owns all
-- that it has seen
pub makes_call : (bank then : TableId) (v w : Seated) (call : Call) → Grows v.0 w.0 call
    → (v.0.share ≡ all_shares → calls_under v.0.carried v.0.seen ≡ v.0.seen)
    → (v.0.share ≡ all_shares → calls_under w.0.carried w.0.seen ≡ w.0.seen)
    → MakesCall (seat_of bank v) (seat_of then w) call
makes_call bank then v w call g before after = record {
  number = g.0;
  others = g.2.0;
  seen = g.3 ∙ ap (λ h. h ++ entry g.0 call ∷ []) (sym g.2.1);
  own = g.4;
  alone = λ whole. sym (after whole) ∙ (g.4 ∙ ap (λ h. h ++ entry g.0 call ∷ []) (before whole));
}

-- the catalog that a call gives back has the genotypes of the history with this call
pub known_after : OneList → (before after : Catalog) (m : Seated) (history : List Entry)
    → genomes_in after ≡ with_call (genomes_in before) (last_call after)
    → genomes_in before ≡ genotypes_of history → m.0.seen ≡ history
    → genomes_in after ≡ genotypes_of
    (m.0.seen ++ entry (last_drawn_number m.0) (last_call after) ∷ [])
known_after one_list before after m history served known seen =
    let push = genotypes_of_push one_list m.0.seen (entry (last_drawn_number m.0) (last_call after))
    in
    cc (served, known, seen, push)

-- a history begins with what was seen before a call
pub MakesCall-begins : (before after : SeatValue) (call : Call) → MakesCall before after call
    → IsPrefix before.seen after.seen
MakesCall-begins before after call made = (
  made.others ++ entry made.number call ∷ [],
  sym (append_assoc before.seen made.others (entry made.number call ∷ [])) ∙ sym made.seen,
)
