-- A turn is drawn, looked for and released. Each step keeps the rule.
use Rattle.std.proofs.Common.{add-one, ◌≡◌, ◌≢◌, ℕ, suc, ◌+◌, ◌%◌, ◌^◌, ◌<◌, List, [], ◌∷◌, ◌++◌, length, set, get_or, true, false, refl, sym, ap, ◌∙◌, subst, inl, inr, ⊎_elim, arith, length-append, append-nil, Some, None}
use Rattle.genotype_bank.proofs.Prelude.{mod-add-mod, some, none, dite, IsPrefix, ℕ_discrete, get_elem?, set_here, set_again, one_turn, step, keeps, takes, gives, Allows, stepped, Catalog, View, Entry, entry, genotypes_of, is_among, idle_view, seat_share, draws_of, one_if, Carries, FitsHistory, SawOwn, genomes_in, call_in, IsBankTable, Seated, with_ticket, HasDrawn, at_turn, HasLooked, last_drawn_number, after_turn, HasReleased}
use Rattle.genotype_bank.proofs.ViewLemmas.{within, total_set, each_set, at_end, only_set, only_keep, seats_kept, some_set, placed_set}
use Rattle.genotype_bank.proofs.HistoryLemmas.{none_some, value, off, own_more, in_front, has_back, has_front, own_seen, IsPrefix-trans, own_all, second_case}
use Rattle.genotype_bank.proofs.TableLemmas.{fits_rest, own_number, draws_below, drawn_lives, carried_all}

-- an idle seat draws a ticket and a number of its own, and keeps the rule
pub draws : (slots id : ℕ) (m : Seated) → 0 < m.0.share → m.0.ticket ≡ None → m.0.holding ≡ false
    → Allows IsBankTable slots id m 0 (λ n. (n + 1) % 2 ^ 64) (HasDrawn (step slots 0 1 0 none) m)
draws slots id m pos free idle' s k wide at small =
    let v = m.0 in
    let t = k.drawn in
    let w = with_ticket v id t in
    let f = k.each id v at in
    let known = own_number s k id v at pos in
    let front = own_more id v.carried v.seen
    (λ i e there is. known i e (in_front v.seen k.history i e f.begins there) is) in
    let not_free : v.share ≡ 0 → ⊥ = λ e. omega arith in
    let apart' : (n : ℕ) → Carries w n → (j : ℕ) (y : View) → j ≢ id → get_elem? s.views j ≡ some y
    → Carries y n → ⊥ = λ n c j y ne e cy. elim (has_back id n v.carried c) [
      | inl a ↦ ne (k.seats.apart n j id y v e at cy a)
      | inr a ↦
          let p = k.seats.placed j y n e cy in
          let same : v ≡ p.0 = cc (at, a, p.1) in
          ne (p.2 (subst (λ (u : View). 0 < u.share) same pos) ∙ a)
    ] in (
      w,
      keeps,
      tt,
      record {
        history = k.history;
        drawn = suc t;
        words = rw (k.words, mod-add-mod t (2 ^ 64) 1, add-one t);
        out = omega (arith, total_set draws_of s.views id v w at, ap one_if free, k.out);
        turn = λ n. only_set (λ (u : View). u.ticket ≡ Some n) s.views id w (k.turn n)
            (λ is j y _ e other. omega (arith, ap value is, ((k.each j y e).waits n other).1));
        seats = record {
          shares = omega (arith, total_set seat_share s.views id v w at, k.seats.shares);
          apart =
              λ n. only_set (λ (u : View). Carries u n) s.views id w (k.seats.apart n) (apart' n);
          placed = placed_set s.views id v w at (λ p. p)
              (λ n c. ⊎_elim (λ (a : Carries v n). k.seats.placed id v n at a)
              (λ (a : n ≡ id). (v, ap (λ i. get_elem? s.views i) a ∙ at, λ _. sym a))
              (has_back id n v.carried c)) k.seats.placed;
          called = λ i e there. some_set (λ (u : View). Carries u e.seat) s.views id v w at
              (λ c. has_front id e.seat v.carried c) (k.seats.called i e there);
          known =
              some_set (λ (u : View). u.seen ≡ k.history) s.views id v w at (λ e. e) k.seats.known;
        };
        each = each_set (λ j u. FitsHistory k.history (suc t) u) s.views id w
            (λ j u _ e. let g = k.each j u e in
            record {
              begins = g.begins;
              spent = g.spent;
              waits = λ n is. let b = g.waits n is in (b.0, omega (arith, b.1));
              holds = g.holds;
              saw = g.saw;
              recalls = g.recalls;
              once = g.once;
            })
            record {
              begins = f.begins;
              spent = λ e. absurd (not_free e);
              waits = λ n is. let same : t ≡ n = ap value is in let o = k.out in
                  (omega arith, omega arith);
              holds = λ h. absurd (off h);
              saw = λ i e there c. elim (has_back id e.seat v.carried c) [
                | inl a ↦ f.saw i e there a
                | inr a ↦ f.saw i e there (cc (a, known i e there a))
              ];
              recalls = λ j x there. let r = f.recalls j x there in
                  (r.0, r.1, λ n c. has_front id n v.carried (r.2 n c));
              once = f.once;
            };
        state = second_case (some_set (λ (u : View). u.holding ≡ true) s.views id v w at
            (λ h. absurd (off (sym idle' ∙ h)))) k.state;
      },
      (id, t, ap (λ ws. get_or ws 0 0) k.words, refl, front),
    )

-- a seat with a ticket gets the catalog in its own turn alone, and keeps the rule
pub serves : (slots id : ℕ) (m : Seated) (t : ℕ) → m.0.ticket ≡ Some t → m.0.holding ≡ false
    → m.1 ≡ [] → Allows IsBankTable slots id m 1 (λ n. n) (HasLooked (step slots 1 0 0 none) m)
serves slots id m t mine idle' nothing s k wide at small =
    let v = m.0 in
    let f = k.each id v at in
    let r : ℕ = get_or s.words 1 0 in
    let len : ℕ = length k.history in
    let r_is : r ≡ len % 2 ^ 64 = ap (λ ws. get_or ws 1 0) k.words in
    let words' : set s.words 1 (get_or s.words 1 0) ≡ (k.drawn % 2 ^ 64) ∷ (len % 2 ^ 64) ∷ [] =
    ap (λ ws. set ws 1 (get_or ws 1 0)) k.words in
    dite (ℕ_discrete r (t % 2 ^ 64))
    (λ hit.
    let same : len ≡ t = one_turn len t (2 ^ 64) (f.waits t mine).0
    (omega (arith, (f.waits t mine).1, k.out, draws_below s k)) (sym r_is ∙ hit) in
    let w = at_turn v k.history in
    let pos = drawn_lives k.history k.drawn v t f mine in
    let mine' : v.ticket ≡ Some len = mine ∙ ap Some (sym same) in
    ⊎_elim
    (λ h.
    let d = h.0 in (
      w,
      takes 0 (Some d),
      ap (λ hs. get_elem? hs 0) h.1,
      record {
        history = k.history;
        drawn = k.drawn;
        words = words';
        out = omega (arith, total_set draws_of s.views id v w at, k.out);
        turn =
            λ n. only_keep (λ (u : View). u.ticket ≡ Some n) s.views id v w at (k.turn n) (λ e. e);
        seats = seats_kept k.history k.history s.views id v w at refl refl k.seats
            (λ i e there. some_set (λ (u : View). Carries u e.seat) s.views id v w at (λ c. c)
            (k.seats.called i e there))
            (id, w, set_here s.views id w (within s.views id v at), refl);
        each =
            each_set (λ j u. FitsHistory k.history k.drawn u) s.views id w (λ j u _ e. k.each j u e)
            record {
              begins = ([], append-nil k.history);
              spent = λ e. absurd (omega (arith, e));
              waits = f.waits;
              holds = λ _. (mine', refl);
              saw = λ i e there c. within k.history i e there;
              recalls = λ j x there. let q = f.recalls j x there in
                  (IsPrefix-trans x.seen v.seen k.history q.0 f.begins, q.1, q.2);
              once = f.once;
            };
        state = inr (
          ap (λ hs. set hs 0 none) h.1,
          (id, w, set_here s.views id w (within s.views id v at), refl),
        );
      },
      (λ t' is. inl (
        hit ∙ ap (λ n. n % 2 ^ 64) (ap value (sym mine ∙ is)),
        (
          k.history,
          d,
          (λ i. (w, (0, Some d) ∷ nothing i)),
          h.2,
          f.begins,
          own_seen v.carried v.seen k.history f.begins f.saw,
        ),
      )),
    ))
    (λ o. absurd (
    let c = o.1 in
    let hold = (k.each c.0 c.1 c.2).holds c.3 in
    let j_is : c.0 ≡ id = k.turn len c.0 id c.1 v c.2 at hold.0 mine' in
    let w_is : c.1 ≡ v = cc (at, c.2, j_is) in cc (idle', w_is, c.3)))
    k.state)
    (λ miss. (
      v,
      keeps,
      tt,
      rw (set_again s.views id v at, words', ← k.words) k,
      (λ t' is. inr ((λ e. miss (e ∙ ap (λ n. n % 2 ^ 64) (ap value (sym is ∙ mine)))), refl)),
    ))

-- a seat ends its turn with its call behind the history, and keeps the rule
pub releases : (slots id : ℕ) (m : Seated) (d : Catalog) → m.1 ≡ (0, Some d) ∷ []
    → m.0.holding ≡ true → Carries m.0 (last_drawn_number m.0)
    → genomes_in d ≡ genotypes_of (after_turn m)
    → Allows IsBankTable slots id m 1 (λ n. (n + 1) % 2 ^ 64)
    (HasReleased (step slots 1 1 0 none) m)
releases slots id m d has_d held mine known s k wide at small =
    let v = m.0 in
    let len : ℕ = length k.history in
    let f = k.each id v at in
    let hold = f.holds held in
    let pos = drawn_lives k.history k.drawn v len f hold.0 in
    let e = entry (last_drawn_number v) (call_in m.1) in
    let history' = k.history ++ e ∷ [] in
    let seen_is : after_turn m ≡ history' = ap (λ l. l ++ e ∷ []) hold.1 in
    let w = idle_view v.share v.carried (after_turn m) in
    let len' : length history' ≡ suc len = omega (arith, length-append k.history (e ∷ [])) in
    let here = set_here s.views id w (within s.views id v at) in
    let longer_pre : (h : List Entry) → IsPrefix h k.history → IsPrefix h history' =
    λ h p. IsPrefix-trans h k.history history' p (e ∷ [], refl) in
    -- others do not carry the number
    let others : (j : ℕ) (u : View) → j ≢ id → get_elem? s.views j ≡ some u → (c : List ℕ)
    → ((n : ℕ) → is_among n c ≡ true → Carries u n) → (h : List Entry) → SawOwn c h k.history
    → SawOwn c h history' = λ j u ne there c sub h saw i x at' b.
    ⊎_elim (λ (a : get_elem? k.history i ≡ some x). saw i x a b)
    (λ (a : (i ≡ len) × (e ≡ x)).
    absurd (ne (k.seats.apart (last_drawn_number v) j id u v there at
    (sub (last_drawn_number v) (cc (a.1, b))) mine)))
    (at_end k.history e x i at') in
    let k' : IsBankTable (stepped s 1 ((get_or s.words 1 0 + 1) % 2 ^ 64) id m.1 w gives) = record {
      history = history';
      drawn = k.drawn;
      words = rw (k.words, mod-add-mod len (2 ^ 64) 1, add-one len, len');
      out = omega (arith, total_set draws_of s.views id v w at, ap one_if hold.0, k.out);
      turn = λ n. only_keep (λ (u : View). u.ticket ≡ Some n) s.views id v w at (k.turn n)
          (λ is. absurd (none_some n is));
      seats = seats_kept k.history history' s.views id v w at refl refl k.seats
          (λ i x there. ⊎_elim
          (λ (a : get_elem? k.history i ≡ some x). some_set (λ (u : View). Carries u x.seat)
          s.views id v w at (λ c. c) (k.seats.called i x a))
          (λ (a : (i ≡ len) × (e ≡ x)). (id, w, here, cc (a.1, mine)))
          (at_end k.history e x i there))
          (id, w, here, seen_is);
      each = each_set (λ j u. FitsHistory history' k.drawn u) s.views id w
          (λ j u ne there. let g = k.each j u there in record {
            begins = longer_pre u.seen g.begins;
            spent = g.spent;
            waits = λ t is. let b = g.waits t is in (
              dite (ℕ_discrete t len) (λ same.
                  absurd (ne (k.turn len j id u v there at (is ∙ ap Some same) hold.0)))
                  (λ other. omega (arith, b.0)),
              b.1,
            );
            holds = λ h. absurd (ne (k.turn len j id u v there at (g.holds h).0 hold.0));
            saw = others j u ne there u.carried (λ n c. c) u.seen g.saw;
            recalls = λ n x at'. let q = g.recalls n x at' in
                (q.0, others j u ne there x.carried q.2 x.seen q.1, q.2);
            once = g.once;
          })
          (fits_rest history' k.drawn v.share v.carried (after_turn m)
          ([], append-nil (after_turn m) ∙ seen_is)
          (λ z. absurd (omega (arith, z)))
          (λ i x there c. rw seen_is (within history' i x there)));
      state = inl (
        d,
        rw has_d (⊎_elim (λ h. rw h.1) (λ o. rw o.0) k.state),
        known ∙ ap genotypes_of seen_is,
      );
    } in (
      w,
      gives,
      tt,
      k',
      (
        refl,
        λ all. own_all v.carried (after_turn m)
            (λ i x there. carried_all
            (stepped s 1 ((get_or s.words 1 0 + 1) % 2 ^ 64) id m.1 w gives)
            k' id w here all i x (subst (λ l. get_elem? l i ≡ some x) seen_is there)),
      ),
    )
