-- Cells that live one after another are a schedule, for any number of updates and whichever seats
-- intern their newborns.
use Rattle.std.proofs.Common.{◌≡◌, ℕ, zero, suc, ◌+◌, ◌<◌, ◌≤◌, Bool, true, false, List, [], ◌∷◌, length, map, length-append, Option, Some, refl, sym, subst, ap, ◌∙◌, arith, add-one, add-zero, zero-add}
use Rattle.std.specs.Prelude.{IsSome, IsNone, max, unwrap_or}
use Rattle.event_orders.proofs.Prelude.{map-append, Contains-push, last_of, ConfigValues, World, CellLife, no_life, PictureValue, picture_of, ScheduleEvent, Run, Intern, Gather, Publish, Look, Hear, State, opening, life_in, newborn_genomes, result_of, results_of, IsLawful, with_value_at, state_after_event, IsScheduleFor}
use borrow.Author.Count.{below_more}
use Rattle.event_orders.proofs.Members.{last_pushed}
use Rattle.event_orders.proofs.Pictures.{picture_update}
use Rattle.event_orders.proofs.Going.{at_same, at_either, Goes, goes_one, goes_on, goes_none, lawful_at}
use Rattle.world_rules.proofs.Updates.{update_of, update_next}

-- a newborn is interned by the seat of its cell
abbrev IsOfSeat : (ℕ → ℕ) → ScheduleEvent → Type 0
IsOfSeat seat_of (Run cell) = Unit {0}
IsOfSeat seat_of (Intern seat cell nth) = seat ≡ seat_of cell
IsOfSeat seat_of (Gather seat) = Unit {0}
IsOfSeat seat_of Publish = Unit {0}
IsOfSeat seat_of (Look observer number) = Unit {0}
IsOfSeat seat_of (Hear observer number) = Unit {0}

module _ (config : ConfigValues) (seat_of : ℕ → ℕ) where
  -- lawful events with so many ends of updates lead from s to t
  abbrev Leads : State → ℕ → State → Type 0
  Leads s k t = Goes config (IsOfSeat seat_of) s k t

  -- the genomes of the newborns of a cell that has lived
  abbrev born : State → ℕ → ℕ
  born s cell = length (newborn_genomes (result_of s cell))

  -- the cells below a have lived and all their newborns are interned; nothing is done of the others
  record Done (a : ℕ) (s : State) : Type 0 where
    pub ran : (c : ℕ) → c < a → IsSome (s.results c)
    pub interned : (c k : ℕ) → c < a → k < born s c → s.interned c k ≡ true
    pub idle : (c : ℕ) → a ≤ c → IsNone (s.results c)
    pub none : (c k : ℕ) → a ≤ c → s.interned c k ≡ false

  -- and of cell a the newborns below m
  record Doing (a m : ℕ) (s : State) : Type 0 where
    pub ran : (c : ℕ) → c < a + 1 → IsSome (s.results c)
    pub interned : (c k : ℕ) → c < a → k < born s c → s.interned c k ≡ true
    pub first : (k : ℕ) → k < m → s.interned a k ≡ true
    pub rest : (k : ℕ) → m ≤ k → s.interned a k ≡ false
    pub idle : (c : ℕ) → a + 1 ≤ c → IsNone (s.results c)
    pub none : (c k : ℕ) → a + 1 ≤ c → s.interned c k ≡ false

  -- a cell lives
  ran_next : (a : ℕ) (s : State) → Done a s → Doing a 0 (state_after_event config s (Run a))
  ran_next a s h = record {
    ran = λ c l. at_either IsSome s.results a c (Some (life_in config s.world a)) (λ e. refl)
        (λ n. h.ran c (omega (arith, n)));
    interned = λ c k l. at_either (λ (o : Option CellLife). k < length
        (newborn_genomes (unwrap_or o no_life)) → s.interned c k ≡ true) s.results a c
        (Some (life_in config s.world a)) (λ e n. absurd (omega arith)) (λ n. h.interned c k l);
    first = λ k l. absurd (omega arith);
    rest = λ k l. h.none a k (omega arith);
    idle = λ c l. at_either IsNone s.results a c (Some (life_in config s.world a))
        (λ e. absurd (omega arith)) (λ n. h.idle c (omega arith));
    none = λ c k l. h.none c k (omega arith);
  }

  -- a newborn is interned
  interned_next : (seat a m : ℕ) (s : State) → Doing a m s
      → Doing a (m + 1) (state_after_event config s (Intern seat a m))
  interned_next seat a m s h = record {
    ran = h.ran;
    interned = λ c k l n. at_either (λ (f : ℕ → Bool). f k ≡ true) s.interned a c
        (with_value_at (s.interned a) m true) (λ e. absurd (omega arith))
        (λ o. h.interned c k l n);
    first = λ k l. here (λ b. b ≡ true) k (λ e. refl) (λ n. h.first k (omega (arith, n)));
    rest = λ k l. here (λ b. b ≡ false) k (λ e. absurd (omega arith)) (λ n. h.rest k (omega arith));
    idle = h.idle;
    none = λ c k l. at_either (λ (f : ℕ → Bool). f k ≡ false) s.interned a c
        (with_value_at (s.interned a) m true) (λ e. absurd (omega arith)) (λ o. h.none c k l);
  }
    where
      here : (P : Bool → Type 0) (k : ℕ) → (k ≡ m → P true) → ((k ≡ m → ⊥) → P (s.interned a k))
          → P (with_value_at s.interned a (with_value_at (s.interned a) m true) a k)
      here P k is other = at_either (λ (f : ℕ → Bool). P (f k)) s.interned a a
          (with_value_at (s.interned a) m true)
          (λ e. at_either P (s.interned a) m k true is other) (λ n. absurd (n refl))

  -- nothing is published or seen between two states of an update
  record Keeps (s t : State) : Type 0 where
    pub world : t.world ≡ s.world
    pub pictures : t.pictures ≡ s.pictures
    pub seen : t.seen ≡ s.seen

  -- all newborns of a cell
  interns : (d a m : ℕ) (s : State) → Doing a m s → m + d ≡ born s a → (t : State) × Leads s 0 t
      × Doing a (born t a) t × Keeps s t
  interns zero a m s h e = (
    s,
    goes_none config (IsOfSeat seat_of) s,
    rw (← e, add-zero) h,
    record { world = refl; pictures = refl; seen = refl },
  )
  interns (suc d) a m s h e =
      let one = goes_one config (IsOfSeat seat_of) s (Intern (seat_of a) a m)
      (h.ran a (omega arith), omega arith, h.rest m (omega arith)) refl in
      let rest = interns d a (m + 1) (state_after_event config s (Intern (seat_of a) a m))
      (interned_next (seat_of a) a m s h) (omega arith) in (
        rest.0,
        goes_on config (IsOfSeat seat_of) s _ rest.0 0 0 one rest.1,
        rest.2,
        record
            { world = rest.3.world; pictures = rest.3.pictures; seen = rest.3.seen },
      )

  -- a cell is done once all its newborns are interned
  done_next : (a : ℕ) (s : State) → Doing a (born s a) s → Done (a + 1) s
  done_next a s h = record {
    ran = h.ran;
    interned =
        λ c k l. below_more (λ c. k < born s c → s.interned c k ≡ true) a
        (λ c l n. h.interned c k l n) (λ n. h.first k n) c l;
    idle = h.idle;
    none = h.none;
  }

  -- all cells from a on
  lives : (d a : ℕ) (s : State) → Done a s → a + d ≡ length s.world.cells → (t : State)
      × Leads s 0 t × Done (length t.world.cells) t × Keeps s t
  lives zero a s h e = (
    s,
    goes_none config (IsOfSeat seat_of) s,
    rw (← e, add-zero) h,
    record { world = refl; pictures = refl; seen = refl },
  )
  lives (suc d) a s h e =
      let s1 = state_after_event config s (Run a) in
      let one = goes_one config (IsOfSeat seat_of) s (Run a)
      (omega arith, h.idle a (omega arith)) tt in
      let all = interns (born s1 a) a 0 s1 (ran_next a s h) (zero-add (born s1 a)) in
      let cells : length all.0.world.cells ≡ length s.world.cells =
      ap (λ w. length w.cells) all.3.world in
      let rest = lives d (a + 1) all.0 (done_next a all.0 all.2) (omega arith) in (
        rest.0,
        goes_on config _ s s1 _ 0 0 one (goes_on config _ s1 all.0 rest.0 0 0 all.1 rest.1),
        rest.2,
        record {
          world = rest.3.world ∙ all.3.world;
          pictures = rest.3.pictures ∙ all.3.pictures;
          seen = rest.3.seen ∙ all.3.seen;
        },
      )

  -- nothing is done at the start of an update
  done_none : (s : State) → ((c : ℕ) → IsNone (s.results c)) → ((c k : ℕ) → s.interned c k ≡ false)
      → Done 0 s
  done_none s idle none = record {
    ran = λ c l. absurd (omega arith);
    interned = λ c k l. absurd (omega arith);
    idle = λ c l. idle c;
    none = λ c k l. none c k;
  }

  -- all pictures are published, and the first observer has seen the last one
  record Shown (n : ℕ) (s : State) : Type 0 where
    pub update : s.world.update ≡ n
    pub published : length s.pictures ≡ n + 1
    pub last : (p : PictureValue) → last_of s.pictures ≡ Some p → p.update ≡ n
    pub seen : s.seen 0 ≡ n

  -- so it is at the opening, after no update
  shown_first : Shown 0 (opening config)
  shown_first = record {
    update = update_of config 0;
    published = omega arith;
    last =
        λ p at. ap (λ (q : PictureValue). q.update)
        (sym (last_pushed [] (picture_of config 0) p at)) ∙ picture_update config 0;
    seen = refl;
  }

  -- once the cells have lived, the update ends, its picture is published, and the first observer
  -- looks at it
  module _ (n : ℕ) (s : State) (done : Done (length s.world.cells) s) (shown : Shown n s) where
    -- the state once the update has ended
    abbrev ended : State
    ended = state_after_event config s (Gather 0)

    -- the state once its picture is published
    abbrev published : State
    published = state_after_event config ended Publish

    -- the state once the first observer has looked at it
    abbrev looked : State
    looked = state_after_event config published (Look 0 (n + 1))

    -- the world is then one update further
    ended_update : ended.world.update ≡ n + 1
    ended_update = update_next config s.world (results_of s) ∙ ap (λ u. u + 1) shown.update

    -- its picture may be published
    may_publish : IsLawful config ended Publish
    may_publish = record {
      rises =
          λ last at. picture_update config ended.world.update ∙ ended_update
          ∙ ap (λ u. u + 1) (sym (shown.last last at));
      same = λ first at. refl;
    }

    -- the first observer may look at it
    may_look : IsLawful config published (Look 0 (n + 1))
    may_look =
        let seen = shown.seen in (
          rw (
            map-append (λ (p : PictureValue). p.update) s.pictures
                (picture_of config ended.world.update ∷ []),
            picture_update config ended.world.update,
            ended_update,
          ) (Contains-push (map (λ (p : PictureValue). p.update) s.pictures) (n + 1)),
          omega (arith, seen),
        )

    -- these three events lead there, and end one update
    update_ends : Leads s 1 looked
    update_ends =
        let Is = IsOfSeat seat_of in
        goes_on config Is s ended looked 1 0 (goes_one config Is s (Gather 0)
        (record { every_cell = done.ran; every_newborn = done.interned }) tt)
        (goes_on config Is ended published looked 0 0 (goes_one config Is ended Publish may_publish tt)
        (goes_one config Is published (Look 0 (n + 1)) may_look tt))

    -- again all pictures are published, and the first observer has seen the last one
    shown_next : Shown (n + 1) looked
    shown_next = record {
      update = ended_update;
      published =
          let before = shown.published in omega (
            arith,
            before,
            length-append s.pictures
                (picture_of config ended.world.update ∷ []),
          );
      last =
          λ p at. ap (λ (q : PictureValue). q.update)
          (sym (last_pushed s.pictures (picture_of config ended.world.update) p at))
          ∙ (picture_update config ended.world.update ∙ ended_update);
      seen =
          at_same published.seen 0 0 (max (published.seen 0) (n + 1)) refl
          ∙ (let seen = shown.seen in omega (arith, seen));
    }

  -- the same of a state in which nothing else has changed
  shown_kept : (n : ℕ) (s t : State) → Keeps s t → Shown n s → Shown n t
  shown_kept n s t keeps shown = record {
    update = ap (λ (w : World). w.update) keeps.world ∙ shown.update;
    published = ap length keeps.pictures ∙ shown.published;
    last = λ p at. shown.last p (subst (λ ps. last_of ps ≡ Some p) keeps.pictures at);
    seen = ap (λ (f : ℕ → ℕ). f 0) keeps.seen ∙ shown.seen;
  }

  -- so many updates, one cell after another
  updates : (n : ℕ) → (t : State) × Leads (opening config) n t × Done 0 t × Shown n t
  updates zero = (
    opening config,
    goes_none config (IsOfSeat seat_of) (opening config),
    done_none
        (opening config) (λ c. refl) (λ c k. refl),
    shown_first,
  )
  updates (suc n) =
      let before = updates n in
      let cells = lives (length before.0.world.cells) 0 before.0 before.2
      (zero-add (length before.0.world.cells)) in
      let shown = shown_kept n before.0 cells.0 cells.3 before.3 in
      let t = looked n cells.0 cells.2 shown in
      let ends = update_ends n cells.0 cells.2 shown in (
        t,
        rw (← add-one n)
            (goes_on config (IsOfSeat seat_of) (opening config) before.0 t n 1 before.1
            (goes_on config (IsOfSeat seat_of) before.0 cells.0 t 0 1 cells.1 ends)),
        done_none t (λ c. refl) (λ c k. refl),
        rw (← add-one n) (shown_next n cells.0 cells.2 shown),
      )

  -- so there is a schedule
  pub schedule_for : (n : ℕ) → (events : List ScheduleEvent) × IsScheduleFor config n seat_of events
  schedule_for n =
      let u = updates n in (
        u.1.0,
        record {
          lawful =
              λ k e at. (lawful_at config (IsOfSeat seat_of) (opening config) u.1.0 u.1.1 k e at).0;
          ends = u.1.3;
          published = ap (λ (t : State). length t.pictures) u.1.2 ∙ u.3.published;
          seen = ap (λ (t : State). t.seen 0) u.1.2 ∙ u.3.seen;
          seats =
              λ k seat cell nth at. (lawful_at config (IsOfSeat seat_of)
              (opening config) u.1.0 u.1.1 k (Intern seat cell nth) at).1;
        },
      )
