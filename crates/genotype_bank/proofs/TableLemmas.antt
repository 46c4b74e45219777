-- What the rule says of one seat.
use Rattle.std.proofs.Common.{◌≡◌, ◌≢◌, ℕ, ◌<◌, ◌≤◌, List, [], set, ap, ◌∙◌, subst, arith, Option, Some}
use Rattle.genotype_bank.proofs.Prelude.{some, dite, IsPrefix, ℕ_discrete, get_elem?, common_steps, set_else, State, Catalog, View, Entry, all_shares, idle_view, spent_view, total, seat_share, draws_of, Carries, FitsHistory, SawOwn, IsBankTable}
use Rattle.genotype_bank.proofs.ViewLemmas.{total_set, total_le, total_ge}
use Rattle.genotype_bank.proofs.HistoryLemmas.{none_some, off, nothing_there, pre_whole}

-- a seat between its calls, which has seen its own of a prefix of the history
pub fits_rest : (history : List Entry) (drawn share : ℕ) (carried : List ℕ) (seen : List Entry)
    → IsPrefix seen history → (share ≡ 0 → idle_view share carried seen ≡ spent_view)
    → SawOwn carried seen history → FitsHistory history drawn (idle_view share carried seen)
fits_rest history drawn share carried seen begins spent saw = record {
  begins = begins;
  spent = spent;
  waits = λ t e. absurd (none_some t e);
  holds = λ h. absurd (off h);
  saw = saw;
  recalls = (λ k m at. absurd (nothing_there k m at));
  once = λ k l m o n at _ _ _. absurd (nothing_there k m at);
}

-- a seat that is between its calls
pub fits_idle : (history : List Entry) (drawn : ℕ) (v : View) (share : ℕ)
    → FitsHistory history drawn v → 0 < share
    → FitsHistory history drawn (idle_view share v.carried v.seen)
fits_idle history drawn v share f pos =
    fits_rest history drawn share v.carried v.seen f.begins (λ s. absurd (omega arith)) f.saw

-- a new seat without calls, which has seen the same
pub fits_new : (history : List Entry) (drawn : ℕ) (v : View) → FitsHistory history drawn v
    → FitsHistory history drawn (idle_view 1 [] v.seen)
fits_new history drawn v f =
    fits_rest history drawn 1 [] v.seen f.begins (λ s. absurd (omega arith))
    (λ i e there c. absurd (off c))

-- an entry under the seat's number is one of those that it carries
pub own_number : (s : State (Option Catalog) View) (k : IsBankTable s) (id : ℕ) (v : View)
    → get_elem? s.views id ≡ some v → 0 < v.share → (i : ℕ) (e : Entry)
    → get_elem? k.history i ≡ some e → e.seat ≡ id → Carries v id
own_number s k id v at pos i e there is =
    let c = k.seats.called i e there in
    let p = k.seats.placed c.0 c.1 e.seat c.2 c.3 in
    let u_is : v ≡ p.0 = cc (at, p.1, is) in
    let j_is : c.0 ≡ e.seat = p.2 (subst (λ (u : View). 0 < u.share) u_is pos) in
    let w_is : c.1 ≡ v = cc (at, c.2, j_is, is) in
    cc (c.3, w_is, is)

-- no more than 4294967296 tickets are out
pub draws_below : (s : State (Option Catalog) View) (k : IsBankTable s)
    → total draws_of s.views ≤ 4294967296
draws_below s k = omega (arith, total_le draws_of seat_share s.views one, k.seats.shares)
  where
    one : (j : ℕ) (v : View) → get_elem? s.views j ≡ some v → draws_of v ≤ seat_share v
    one j v at = dite (ℕ_discrete v.share 0)
        (λ e. omega (arith, ap draws_of ((k.each j v at).spent e)))
        (λ ne. grind (arith, common_steps))

-- a seat with a ticket is not spent
pub drawn_lives : (history : List Entry) (drawn : ℕ) (v : View) (t : ℕ)
    → FitsHistory history drawn v → v.ticket ≡ Some t → 0 < v.share
drawn_lives history drawn v t f is = dite (ℕ_discrete v.share 0)
    (λ e. absurd (cc (f.spent e, is))) (λ ne. omega arith)

-- where a seat has all shares, the others are spent
pub others_spent : (s : State (Option Catalog) View) (k : IsBankTable s) (id : ℕ) (w : View)
    → get_elem? s.views id ≡ some w → w.share ≡ all_shares → (j : ℕ) (u : View)
    → get_elem? s.views j ≡ some u → j ≢ id → u ≡ spent_view
others_spent s k id w at all j u there ne =
    (k.each j u there).spent (omega (
      arith,
      all,
      total_set seat_share s.views id w spent_view at,
      total_ge seat_share (set s.views id spent_view) j u
          (set_else s.views id j spent_view ne ∙ there),
      k.seats.shares,
    ))

-- a whole seat carries the number of each call
pub carried_all : (s : State (Option Catalog) View) (k : IsBankTable s) (id : ℕ) (w : View)
    → get_elem? s.views id ≡ some w → w.share ≡ all_shares → (i : ℕ) (e : Entry)
    → get_elem? k.history i ≡ some e → Carries w e.seat
carried_all s k id w at all i e there = let c = k.seats.called i e there in dite (ℕ_discrete c.0 id)
    (λ is. let same : c.1 ≡ w = cc (at, c.2, is) in cc (c.3, same))
    (λ ne. absurd (off (subst (λ (u : View). Carries u e.seat)
    (others_spent s k id w at all c.0 c.1 c.2 ne) c.3)))

-- a whole seat has seen the whole history
pub whole_seen : (s : State (Option Catalog) View) (k : IsBankTable s) (id : ℕ) (v : View)
    → get_elem? s.views id ≡ some v → v.share ≡ all_shares → v.seen ≡ k.history
whole_seen s k id v at all = let c = k.seats.known in dite (ℕ_discrete c.0 id)
    (λ is. let same : c.1 ≡ v = cc (at, c.2, is) in cc (c.3, same))
    (λ ne. let z : [] ≡ k.history = cc (others_spent s k id v at all c.0 c.1 c.2 ne, c.3) in
    pre_whole v.seen k.history (k.each id v at).begins (rw (← z) (omega arith)))
