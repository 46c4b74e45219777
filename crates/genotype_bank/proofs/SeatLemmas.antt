-- A bank begins; seats are split and joined; a bank is closed. Each step keeps the rule.
use Rattle.std.proofs.Common.{◌≡◌, ◌⊎◌, ℕ, zero, suc, ◌+◌, ◌-◌, ◌<◌, ◌≤◌, List, [], ◌∷◌, length, set, get_or, true, false, refl, sym, ap, ◌∙◌, subst, inl, inr, ⊎_elim, arith, Option, Some, None}
use Rattle.genotype_bank.proofs.Prelude.{some, none, some-injective, dite, IsPrefix, ℕ_discrete, get_elem?, at_set, set_here, set_else, step, keeps, Allows, Splits, Joins, opening, Final, Seen, Catalog, View, Entry, genotypes_of, all_shares, idle_view, first_view, spent_view, seat_share, draws_of, one_if, Carries, FitsHistory, SomeSeat, genomes_in, IsBankTable, Seated, kept_half, new_half, joined_view, memo_of, HasRecalled}
use Rattle.genotype_bank.specs.declared.view.Memo.{Memo}
use Rattle.genotype_bank.proofs.ViewLemmas.{within, one_there, total_set, total_snoc, each_set, each_snoc, only_set, only_keep, only_snoc, seats_kept, some_set, some_snoc, placed_set, placed_keep, placed_snoc, total_ge, set_swap}
use Rattle.genotype_bank.proofs.HistoryLemmas.{none_some, off, nothing_there, in_front, own_seen, own_all, second_case, pre_two, pre_whole, pick, longer_least, either_has, has_left, has_right}
use Rattle.genotype_bank.proofs.TableLemmas.{fits_rest, fits_idle, fits_new, others_spent, carried_all, whole_seen}

-- a bank begins with an empty catalog and one whole seat, by the rule
pub begins : (d : Catalog) → genomes_in d ≡ []
    → IsBankTable (opening (0 ∷ 0 ∷ []) (Some d ∷ []) first_view)
begins d empty = record {
  history = [];
  drawn = 0;
  words = refl;
  out = refl;
  turn = λ t j k v w ej ek a b. (place j v ej).0 ∙ sym (place k w ek).0;
  seats = record {
    shares = refl;
    apart = λ n j k v w ej ek a b. (place j v ej).0 ∙ sym (place k w ek).0;
    placed = λ j v n e c. absurd (off (rw (← (place j v e).1) at c));
    called = λ k e at. absurd (nothing_there k e at);
    known = (0, first_view, refl, refl);
  };
  each = λ j v e. rw (← (place j v e).1) (fits_rest [] 0 all_shares [] [] ([], refl)
      (λ s. absurd (let h : 4294967296 ≡ 0 = s in omega arith)) (λ i e there c. absurd (off c)));
  state = inl (d, refl, empty);
}
  where
    place : (j : ℕ) (v : View) → get_elem? (first_view ∷ []) j ≡ some v
        → (j ≡ 0) × (first_view ≡ v)
    place zero v e = (refl, some-injective first_view v e)
    place (suc j) v e = absurd (nothing_there j v e)

-- a seat that keeps all but a share of 1, which a new seat gets, keeps the rule
pub splits : (id : ℕ) (v : View) → 2 ≤ v.share → v.ticket ≡ None → v.holding ≡ false
    → Splits IsBankTable id v (kept_half v) (new_half v)
splits id v two free idle' s k at =
    let a = set s.views id (kept_half v) in
    let left = kept_half v in
    let right = new_half v in
    let f = k.each id v at in
    let pos : 0 < v.share - 1 = omega arith in
    record {
      history = k.history;
      drawn = k.drawn;
      words = k.words;
      out = omega (
        arith,
        total_set draws_of s.views id v left at,
        total_snoc draws_of a right,
        ap one_if free,
        k.out,
      );
      turn = λ t. only_snoc (λ (u : View). u.ticket ≡ Some t) a right
          (only_keep (λ (u : View). u.ticket ≡ Some t) s.views id v left at (k.turn t)
          (λ e. absurd (none_some t e))) (λ e. absurd (none_some t e));
      seats = record {
        shares = omega (
          arith,
          total_set seat_share s.views id v left at,
          total_snoc seat_share a right,
          k.seats.shares,
        );
        apart = λ n. only_snoc (λ (u : View). Carries u n) a right
            (only_keep (λ (u : View). Carries u n) s.views id v left at (k.seats.apart n) (λ c. c))
            (λ c. absurd (off c));
        placed = placed_snoc a right (λ n c. off c)
            (placed_keep s.views id v left at (λ _. omega arith) (λ n c. c) k.seats.placed);
        called = λ n e there. some_snoc (λ (u : View). Carries u e.seat) a right
            (some_set (λ (u : View). Carries u e.seat) s.views id v left at (λ c. c)
            (k.seats.called n e there));
        known = some_snoc (λ (u : View). u.seen ≡ k.history) a right
            (some_set (λ (u : View). u.seen ≡ k.history) s.views id v left at
            (λ c. c) k.seats.known);
      };
      each = each_snoc (FitsHistory k.history k.drawn) a right
          (each_set (λ j u. FitsHistory k.history k.drawn u) s.views id left
          (λ j u _ e. k.each j u e) (fits_idle k.history k.drawn v (v.share - 1) f pos))
          (fits_new k.history k.drawn v f);
      state = second_case
          (λ o. some_snoc (λ (u : View). u.holding ≡ true) a right
          (some_set (λ (u : View). u.holding ≡ true) s.views id v left at
          (λ h. absurd (off (sym idle' ∙ h))) o)) k.state;
    }

-- joining a seat into another, which leaves it spent, keeps the rule
pub joins : (id : ℕ) (v : View) (other : ℕ) (w : View) → 0 < v.share → v.ticket ≡ None
    → w.ticket ≡ None → v.holding ≡ false → w.holding ≡ false
    → Joins IsBankTable id v other w (joined_view v w) spent_view
joins id v other w pos free free' idle' idle'' s k at apart there =
    let b = joined_view v w in
    let there' : get_elem? s.views other ≡ some w =
    sym (set_else s.views id other b apart) ∙ there in
    let one = set s.views other spent_view in
    let ne : ¬ (id ≡ other) = λ e. apart (sym e) in
    let at1 : get_elem? one id ≡ some v = set_else s.views other id spent_view ne ∙ at in
    let f = k.each id v at in
    let g = k.each other w there' in
    let least = longer_least v.seen w.seen in
    let pre = pick (λ l. IsPrefix l k.history) v.seen w.seen f.begins g.begins in
    let mine = set_here one id b (within one id v at1) in
    let alone : (n : ℕ) → Carries v n → Carries w n → ⊥ =
    λ n a c. apart (sym (k.seats.apart n id other v w at there' a c)) in
    -- a fact that some view has: the joined seat has it, or another does
    let move : (P : View → Type 0) → (P v → P b) → (P w → P b) → SomeSeat P s.views
    → SomeSeat P (set one id b) = λ P from_v from_w c.
    dite (ℕ_discrete c.0 other)
    (λ is. (
      id,
      b,
      mine,
      from_w
          (subst P (one_there s.views other c.1 w
          (subst (λ n. get_elem? s.views n ≡ some c.1) is c.2)
          there') c.3),
    ))
    (λ no'. some_set P one id v b at1 from_v
    (c.0, c.1, set_else s.views other c.0 spent_view no' ∙ c.2, c.3)) in
    let placed1 = placed_keep s.views other w spent_view there' (λ p. absurd (omega arith))
    (λ n c. absurd (off c)) k.seats.placed in
    subst (λ l. IsBankTable record { words = s.words; homes = s.homes; views = l })
    (sym (set_swap s.views id other b spent_view apart)) record {
      history = k.history;
      drawn = k.drawn;
      words = k.words;
      out = omega (
        arith,
        total_set draws_of s.views other w spent_view there',
        total_set draws_of one id v b at1,
        ap one_if free,
        ap one_if free',
        k.out,
      );
      turn = λ t. only_keep (λ (u : View). u.ticket ≡ Some t) one id v b at1
          (only_keep (λ (u : View). u.ticket ≡ Some t) s.views other w spent_view there' (k.turn t)
          (λ e. absurd (none_some t e))) (λ e. absurd (none_some t e));
      seats = record {
        shares = omega (
          arith,
          total_set seat_share s.views other w spent_view there',
          total_set seat_share one id v b at1,
          k.seats.shares,
        );
        apart = λ n. only_set (λ (u : View). Carries u n) one id b
            (only_keep (λ (u : View). Carries u n) s.views other w spent_view there'
            (k.seats.apart n) (λ c. absurd (off c)))
            (λ c j y no' e cy. elim (at_set s.views other j spent_view y e) [
              | inl a ↦ off (subst (λ (u : View). Carries u n) (sym a.1) cy)
              | inr a ↦ elim (either_has n v.carried w.carried c) [
                | inl h ↦ no' (k.seats.apart n j id y v a.1 at cy h)
                | inr h ↦ a.0 (k.seats.apart n j other y w a.1 there' cy h)
              ]
            ]);
        placed = placed_set one id v b at1 (λ _. pos)
            (λ n c. ⊎_elim (λ h. placed1 id v n at1 h)
            (λ h. let p = k.seats.placed other w n there' h in dite (ℕ_discrete n other)
            (λ is. (
              spent_view,
              subst (λ i. get_elem? one i ≡ some spent_view) (sym is)
                  (set_here s.views other spent_view (within s.views other w there')),
              λ z. absurd (omega arith),
            ))
            (λ no'. (
              p.0,
              set_else s.views other n spent_view no'
                  ∙ p.1,
              λ z. absurd (no' (sym (p.2 z))),
            )))
            (either_has n v.carried w.carried c))
            placed1;
        called = λ i e x. move (λ (u : View). Carries u e.seat)
            (λ h. has_left e.seat v.carried w.carried h)
            (λ h. has_right e.seat v.carried w.carried h) (k.seats.called i e x);
        known = move (λ (u : View). u.seen ≡ k.history)
            (λ h. pre_whole b.seen k.history pre
            (let z = ap (λ (l : List Entry). length l) h in let y = least.0 in omega arith))
            (λ h. pre_whole b.seen k.history pre
            (let z = ap (λ (l : List Entry). length l) h in let y = least.1 in omega arith))
            k.seats.known;
      };
      each = each_set (λ j u. FitsHistory k.history k.drawn u) one id b
          (λ j u _ e. each_set (λ j u. FitsHistory k.history k.drawn u) s.views other spent_view
          (λ j u _ e. k.each j u e) (fits_rest k.history k.drawn 0 [] [] (k.history, refl)
          (λ _. refl) (λ i e x c. absurd (off c))) j u e)
          record {
            begins = pre;
            spent = λ e. absurd (let z : v.share + w.share ≡ 0 = e in omega arith);
            waits = λ t e. absurd (none_some t e);
            holds = λ h. absurd (off h);
            saw = λ i e x c. ⊎_elim (λ a. let z = f.saw i e x a in let y = least.0 in omega arith)
                (λ a. let z = g.saw i e x a in let y = least.1 in omega arith)
                (either_has e.seat v.carried w.carried c);
            recalls = λ n m e. elim (memos v w n m e) [
              | inl is ↦ rw (← is.1) (
                pre_two v.seen b.seen k.history f.begins pre least.0,
                f.saw,
                λ i h. has_left i v.carried w.carried h,
              )
              | inr is ↦ rw (← is.1) (
                pre_two w.seen b.seen k.history g.begins pre least.1,
                g.saw,
                λ i h. has_right i v.carried w.carried h,
              )
            ];
            once = λ i j x y n ex ey cx cy. elim (memos v w i x ex) [
              | inl a ↦ elim (memos v w j y ey) [
                | inl c ↦ a.0 ∙ sym c.0
                | inr c ↦ absurd (alone n (rw (← a.1) at cx) (rw (← c.1) at cy))
              ]
              | inr a ↦ elim (memos v w j y ey) [
                | inl c ↦ absurd (alone n (rw (← c.1) at cy) (rw (← a.1) at cx))
                | inr c ↦ a.0 ∙ sym c.0
              ]
            ];
          };
      state = second_case
          (move (λ (u : View). u.holding ≡ true) (λ h. absurd (off (sym idle' ∙ h)))
          (λ h. absurd (off (sym idle'' ∙ h)))) k.state;
    }
  where
    memos : (v w : View) (n : ℕ) (m : Memo) → get_elem? (memo_of v ∷ memo_of w ∷ []) n ≡ some m
        → ((n ≡ 0) × (memo_of v ≡ m)) ⊎ ((n ≡ 1) × (memo_of w ≡ m))
    memos v w zero m e = inl (refl, some-injective (memo_of v) m e)
    memos v w (suc zero) m e = inr (refl, some-injective (memo_of w) m e)
    memos v w (suc (suc n)) m e = absurd (nothing_there n m e)

-- a joined seat learns of the seats that it was joined from, and keeps the rule
pub recalls : (slots id : ℕ) (m : Seated) → 0 < m.0.share → m.0.ticket ≡ None → m.0.holding ≡ false
    → Allows IsBankTable slots id m 0 (λ n. n) (HasRecalled (step slots 0 0 0 none) m)
recalls slots id m pos free idle' s k wide at small =
    let v = m.0 in
    let f = k.each id v at in
    let w = idle_view v.share v.carried v.seen in
    let same : s.words ≡ set s.words 0 (get_or s.words 0 0) =
    k.words ∙ sym (ap (λ ws. set ws 0 (get_or ws 0 0)) k.words) in (
      w,
      keeps,
      tt,
      record {
        history = k.history;
        drawn = k.drawn;
        words = sym same ∙ k.words;
        out = omega (arith, total_set draws_of s.views id v w at, ap one_if free, k.out);
        turn = λ n. only_keep (λ (u : View). u.ticket ≡ Some n) s.views id v w at (k.turn n)
            (λ is. absurd (none_some n is));
        seats = seats_kept k.history k.history s.views id v w at refl refl k.seats
            (λ i x there. some_set (λ (u : View). Carries u x.seat) s.views id v w at (λ c. c)
            (k.seats.called i x there))
            (some_set (λ (u : View). u.seen ≡ k.history) s.views id v w at (λ c. c) k.seats.known);
        each = each_set (λ j u. FitsHistory k.history k.drawn u) s.views id w
            (λ j u _ e. k.each j u e) (fits_idle k.history k.drawn v v.share f pos);
        state = second_case (some_set (λ (u : View). u.holding ≡ true) s.views id v w at
            (λ h. absurd (off (sym idle' ∙ h)))) k.state;
      },
      (
        refl,
        (λ n x there. let q = f.recalls n x there in (
          q.0,
          own_seen x.carried x.seen v.seen q.0
              (λ i e at' b. q.1 i e (in_front v.seen k.history i e f.begins at') b),
        )),
        f.once,
        (let a = total_ge seat_share s.views id v at in let z = k.seats.shares in omega arith),
        λ all. own_all v.carried v.seen
            (λ i e there. carried_all s k id v at all i e
            (in_front v.seen k.history i e f.begins there)),
      ),
    )

-- when a whole seat closes a bank, the catalog has the genotypes of all that it has seen
pub closes : (id : ℕ) (v : View) (ws : List ℕ) (xs : List (Option Catalog)) → v.share ≡ all_shares
    → v.holding ≡ false → Final (Seen IsBankTable id v) ws xs
    → (d : Catalog) × (get_elem? xs 0 ≡ some (Some d)) × (genomes_in d ≡ genotypes_of v.seen)
closes id v ws xs all idle' end =
    let s = end.0 in
    let k = end.1.0 in
    let at = end.1.1 in
    ⊎_elim
    (λ h. (
      h.0,
      end.4 0 (Some h.0) (ap (λ hs. get_elem? hs 0) h.1),
      h.2
          ∙ ap genotypes_of (sym (whole_seen s k id v at all)),
    ))
    (λ o. let c = o.1 in absurd (dite (ℕ_discrete c.0 id)
    (λ is. off (sym idle' ∙ (ap (λ (u : View). u.holding)
    (sym (one_there s.views id c.1 v (subst (λ n. get_elem? s.views n ≡ some c.1) is c.2) at))
    ∙ c.3)))
    (λ ne. off (subst (λ (u : View). u.holding ≡ true) (others_spent s k id v at all c.0 c.1 c.2 ne)
    c.3))))
    k.state
