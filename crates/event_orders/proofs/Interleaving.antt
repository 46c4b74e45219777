-- Whatever the order in which seats intern the newborns of their own cells, a schedule has it.
use Rattle.std.proofs.Common.{◌≡◌, ℕ, zero, suc, ◌+◌, ◌<◌, ◌≤◌, List, [], ◌++◌, length, map, take, refl, sym, subst, ap, ◌∙◌, inl, inr, arith, zero-add}
use Rattle.std.specs.Prelude.{◌==◌}
use Rattle.event_orders.proofs.Prelude.{flat_map, range_with_len, cases_Bool, fold-append, map-append, fill_by_all, map-map, Entry, ConfigValues, ScheduleEvent, State, genome_entry, newborn_genomes, result_of, opening, MayGather, state_after_event, state_after, IsSchedule, StartsUpdate, newborns_for, IsInterleaving, GoesOnWith}
use Rattle.event_orders.proofs.Results.{AreLives}
use Rattle.event_orders.proofs.Between.{holds_after}
use Rattle.event_orders.proofs.Going.{Any, AllLawful-append, all_lawful, lawful_at, goes_on}
use Rattle.event_orders.proofs.Pairs.{Pair, pairs_at, pairs_from, in_pairs, pairs_have, pairs_apart}
use Rattle.event_orders.proofs.LeftPairs.{Left, newborn}
use Rattle.event_orders.proofs.Explained.{Explained, due, explained, own}
use Rattle.event_orders.proofs.AllLive.{Lived, all_live}

module _ (config : ConfigValues) where
  -- at the start of an update, the seats of some cells intern their newborns
  module _ (s : State) (seat_of : ℕ → ℕ) (u : State)
      (lived : Lived config (length s.world.cells) s u) where
    -- how many newborns a cell has
    abbrev many : ℕ → ℕ
    many c = length (newborn_genomes (result_of u c))

    -- what a seat has to intern
    abbrev all_due : ℕ → List Pair
    all_due j = pairs_from seat_of many j 0 (length s.world.cells)

    left_first : Left u all_due
    left_first = record {
      ran = λ c l. lived.ran c (rw lived.world at l);
      valid = λ j p m.
          let in_them = in_pairs seat_of many j 0 (length s.world.cells) p m in
          (lived.ran p.0 (omega (arith, in_them.1)), in_them.2, lived.none p.0 p.1);
      apart = λ j. pairs_apart seat_of many j 0 (length s.world.cells);
      disjoint =
          λ i j p n l m. n (sym (in_pairs seat_of many i 0 (length s.world.cells) p l).3
          ∙ (in_pairs seat_of many j 0 (length s.world.cells) p m).3);
      whole = λ c k l n.
          let within = rw lived.world at l in
          inr (
            seat_of c,
            pairs_have seat_of many (seat_of c) 0 (length s.world.cells) c k
                (omega arith) (omega (arith, within)) refl n,
          );
    }

    -- what is due of a cell are the newborns of its life in the starting world
    due_at : (j c : ℕ) → c < length s.world.cells
        → map (newborn u) (pairs_at seat_of many j c) ≡ newborns_for config s.world seat_of j c
    due_at j c l = elim (cases_Bool (seat_of c == j)) [
      | inl is ↦ rw is (map-map (newborn u) (λ k. (c, k)) (range_with_len 0 (many c))
          ∙ sym (fill_by_all (λ k. newborn u (c, k)) (newborn_genomes (result_of u c)) (many c) []
          refl (λ k l. refl)) ∙ rw ((lived.lives c (lived.ran c l)).1, lived.world) refl)
      | inr other ↦ rw other refl
    ]

    due_from : (j first n : ℕ) → first + n ≤ length s.world.cells
        → map (newborn u) (pairs_from seat_of many j first n) ≡ flat_map
        (newborns_for config s.world seat_of j) (range_with_len first n)
    due_from j first zero l = refl
    due_from j first (suc n) l =
        rw (
          map-append (newborn u) (pairs_at seat_of many j first),
          due_at j first (omega (arith, l)),
          due_from j (first + 1) n (omega (arith, l)),
        ) refl

    due_is : (calls : List Entry) → IsInterleaving config s.world seat_of calls → (j : ℕ)
        → own j calls ≡ due u all_due j
    due_is calls is j =
        rw (is j, ← due_from j 0 (length s.world.cells) (omega arith))
        (map-map (genome_entry j) (newborn u) (all_due j))

  -- at the start of an update lawful events have these calls
  calls_explained : (s : State) (seat_of : ℕ → ℕ) (calls : List Entry)
      → AreLives config s.world s.results → StartsUpdate s
      → IsInterleaving config s.world seat_of calls → Explained config s calls
  calls_explained s seat_of calls are starts is =
      let first : Lived config 0 s s = record {
        ran = λ c l. absurd (omega arith);
        idle = λ c l. starts.idle c;
        lives = are;
        world = refl;
        history = refl;
        none = starts.none;
      } in
      let all = all_live config (length s.world.cells) 0 s s first
      (zero-add (length s.world.cells)) in
      let rest = explained config calls all.0 (all_due s seat_of all.0 all.2)
      (left_first s seat_of all.0 all.2) (due_is s seat_of all.0 all.2 calls is) in (
        rest.0,
        goes_on config Any s all.0 rest.0 0 0 all.1 rest.1,
        rw all.2.history at rest.2,
        rest.3,
      )

  -- a schedule that stands at the start of an update goes on with these calls
  pub goes_on_with : (events : List ScheduleEvent) → take (length events) events ≡ events
      → IsSchedule config events → (seat_of : ℕ → ℕ) (calls : List Entry)
      → StartsUpdate (state_after config events)
      → IsInterleaving config (state_after config events).world seat_of calls
      → (more : List ScheduleEvent) × GoesOnWith config events calls more
  goes_on_with events whole lawful seat_of calls starts is =
      let s = state_after config events in
      let are : AreLives config s.world s.results =
      rw whole at (holds_after config events lawful (length events) (omega arith)).results in
      let found = calls_explained s seat_of calls are starts is in
      let more = found.1.0 in
      let before = all_lawful config Any (opening config) events (λ n e at. (lawful n e at, tt)) in
      let both = AllLawful-append config Any (opening config) events more before found.1.1 in
      let end : state_after config (events ++ more) ≡ found.0 =
      fold-append (state_after_event config) (opening config) events more ∙ found.1.2 in (
        more,
        record {
          lawful = λ n e at. (lawful_at config Any (opening config) (events ++ more) both n e at).0;
          history = ap (λ (t : State). t.history) end ∙ found.2;
          ends = subst MayGather (sym end) found.3;
        },
      )
