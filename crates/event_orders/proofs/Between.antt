-- What holds between the events of a schedule.
use Rattle.std.proofs.Common.{◌≡◌, ℕ, zero, suc, ◌+◌, ◌<◌, ◌≤◌, true≢false, cond, List, [], ◌∷◌, ◌++◌, length, get_or, take, Some, Contains, refl, sym, ap, ◌∙◌, inl, arith, add-one, add-zero, zero-add}
use Rattle.std.specs.Prelude.{◌↔◌, slice_get, count_by}
use Rattle.event_orders.proofs.Prelude.{take_more, fold_push, sum_by-append, slice_get_within, get_or_from_slice_get, slice_get-get_or, genomes_of, genotypes_of, HasEachOnce, Letter, ConfigValues, World, first_world, lives_of, scene_of_lives, world_of, next_scene, next_world, world_after, ScheduleEvent, Run, Intern, Gather, Publish, Look, Hear, State, opening, MayGather, IsLawful, with_seen, state_after_event, state_after, IsSchedule, is_gather, ShowsEachUpdate, genomes_ever}
use Rattle.genome.specs.Genome.{different_of}
use Rattle.event_orders.proofs.Results.{lives_in, AreLives, result_kept, results_are_lives}
use Rattle.event_orders.proofs.Banked.{IsBanked, intern_banked, gather_members}
use Rattle.event_orders.proofs.Pictures.{AreShown, first_shown, publish_shown, next_number}

-- what holds of a state after n updates
pub record HoldsAt (config : ConfigValues) (n : ℕ) (s : State) : Type 0 where
  pub world : s.world ≡ world_after config n
  pub results : AreLives config s.world s.results
  pub bank : IsBanked config s.world s.interned s.history
  pub pictures : AreShown config s.pictures

module _ (config : ConfigValues) where
  -- the founder's genome is the configuration's
  founder_genome : genomes_ever (first_world config).everyone ≡ config.ancestor ∷ []
  unfolding first_world
  founder_genome = refl

  -- the world after no update is the first one
  first_world_is : world_after config 0 ≡ first_world config
  unfolding world_after
  first_world_is = refl

  -- what holds of a state after n updates holds of the opening, after none
  holds_at_first : HoldsAt config 0 (opening config)
  holds_at_first =
      let founder : genomes_ever (world_after config 0).everyone ≡ config.ancestor ∷ [] =
      rw first_world_is founder_genome in
      record {
        world = refl;
        results = λ cell h. absurd (true≢false (sym h));
        bank = record {
          old = λ g h. rw founder at h;
          young = λ cell nth h. absurd (true≢false (sym h));
          only = λ g h. inl (rw founder h);
        };
        pictures = first_shown config;
      }

  -- the update over the lives that the definition lists is the definition's
  next_is : (w : World) → world_of (scene_of_lives config w (lives_in config w))
      ≡ next_world config w
  unfolding next_world next_scene lives_of
  next_is w = refl

  -- the world after one more update is the next world
  world_step : (n : ℕ) → next_world config (world_after config n) ≡ world_after config (suc n)
  unfolding world_after
  world_step n = refl

  -- the same, one added
  world_next : (n : ℕ) → next_world config (world_after config n) ≡ world_after config (n + 1)
  world_next n = world_step n ∙ ap (world_after config) (sym (add-one n))

  -- an update has ended
  gather_kept : (n : ℕ) (s : State) (seat : ℕ) → MayGather s → HoldsAt config n s
      → HoldsAt config (n + 1) (state_after_event config s (Gather seat))
  gather_kept n s seat may h = record {
    world =
        rw (results_are_lives config s h.results may.every_cell, next_is s.world, h.world)
        (world_next n);
    results = λ cell e. absurd (true≢false (sym e));
    bank = record {
      old = λ g. (gather_members config s seat may h.results h.bank g).1;
      young = λ cell nth e. absurd (true≢false (sym e));
      only = λ g k. inl ((gather_members config s seat may h.results h.bank g).0 k);
    };
    pictures = h.pictures;
  }

  -- the updates after one more event
  abbrev counted : ℕ → ScheduleEvent → ℕ
  counted n e = n + cond (is_gather e) 1 0

  -- what an observer has seen is no part of it
  seen_apart : (n : ℕ) (s : State) (observer number : ℕ) → HoldsAt config n s
      → HoldsAt config n (with_seen s observer number)
  seen_apart n s observer number h = record {
    world = h.world;
    results = h.results;
    bank = h.bank;
    pictures = h.pictures;
  }

  -- each lawful event keeps what holds
  kept : (n : ℕ) (s : State) (e : ScheduleEvent) → IsLawful config s e → HoldsAt config n s
      → HoldsAt config (counted n e) (state_after_event config s e)
  kept n s (Run cell) may h =
      rw add-zero (record {
        world = h.world;
        results = result_kept config s.world s.results cell may.0 h.results;
        bank = h.bank;
        pictures = h.pictures;
      })
  kept n s (Intern seat cell nth) may h =
      rw add-zero (record {
        world = h.world;
        results = h.results;
        bank = intern_banked config s seat cell nth may h.results h.bank;
        pictures = h.pictures;
      })
  kept n s (Gather seat) may h = gather_kept n s seat may h
  kept n s Publish may h =
      rw add-zero (record {
        world = h.world;
        results = h.results;
        bank = h.bank;
        pictures = publish_shown config s.pictures s.world.update
            (next_number config s may h.pictures) h.pictures;
      })
  kept n s (Look observer number) may h = rw add-zero (seen_apart n s observer number h)
  kept n s (Hear observer number) may h = rw add-zero (seen_apart n s observer number h)

-- the events up to and with the one at a place
take_with : (events : List ScheduleEvent) (n : ℕ) (e : ScheduleEvent) → slice_get events n ≡ Some e
    → take (n + 1) events ≡ take n events ++ e ∷ []
take_with events n e at =
    take_more events n e (slice_get_within events n e at)
    ∙ ap (λ x. take n events ++ x ∷ []) (get_or_from_slice_get events n e e at)

module _ (config : ConfigValues) (events : List ScheduleEvent) where
  -- the updates that have ended before a place
  abbrev gathers : ℕ → ℕ
  gathers n = count_by is_gather (take n events)

  -- the state before a place
  abbrev pub at_place : ℕ → State
  at_place n = state_after config (take n events)

  -- the state goes on by one event
  pub state_with : (n : ℕ) (e : ScheduleEvent) → slice_get events n ≡ Some e
      → at_place (n + 1) ≡ state_after_event config (at_place n) e
  state_with n e at =
      ap (state_after config) (take_with events n e at)
      ∙ fold_push (state_after_event config) (opening config) (take n events) e

  -- the updates that have ended by the next place
  gathers_with : (n : ℕ) (e : ScheduleEvent) → slice_get events n ≡ Some e
      → gathers (n + 1) ≡ counted config (gathers n) e
  gathers_with n e at =
      ap (count_by is_gather) (take_with events n e at)
      ∙ sum_by-append (λ x. cond (is_gather x) 1 0) (take n events) (e ∷ [])
      ∙ ap (λ k. gathers n + k) (zero-add (cond (is_gather e) 1 0))

  -- at every place of a schedule this holds
  pub holds_after : IsSchedule config events → (n : ℕ) → n ≤ length events
      → HoldsAt config (gathers n) (at_place n)
  holds_after lawful zero l = holds_at_first config
  holds_after lawful (suc n) l =
      let within : n < length events = omega arith in
      let e = get_or events n Publish in
      let at = slice_get-get_or events n Publish within in
      rw (← add-one n, gathers_with n e at, state_with n e at) (kept config (gathers n) (at_place n) e
      (lawful n e at) (holds_after lawful n (omega arith)))

  -- at every moment of a schedule the world is the definition's
  pub world_at : IsSchedule config events → (n : ℕ) → n ≤ length events
      → (at_place n).world ≡ world_after config (gathers n)
  world_at lawful n l = (holds_after lawful n l).world

  -- at the end of an update the bank has exactly the genomes of all that were ever in the world
  pub genotypes_at : ((genomes : List (List Letter)) → HasEachOnce (different_of genomes) genomes)
      → IsSchedule config events
      → (n seat : ℕ) → slice_get events n ≡ Some (Gather seat)
      → HasEachOnce (genotypes_of (at_place (n + 1)).history)
      (genomes_ever (world_after config (gathers (n + 1))).everyone)
  genotypes_at each lawful n seat at =
      let l : n < length events = slice_get_within events n (Gather seat) at in
      let before = holds_after lawful n (omega arith) in
      let same = state_with n (Gather seat) at in
      let world = world_at lawful (n + 1) (omega arith) in
      let all = each (genomes_of (at_place (n + 1)).history) in
      let members : (g : List Letter) → Contains (genomes_of (at_place (n + 1)).history) g
      ↔ Contains (genomes_ever (world_after config (gathers (n + 1))).everyone) g =
      λ g. rw (← world, same) (gather_members config (at_place n) seat
      (lawful n (Gather seat) at) before.results before.bank g) in
      record {
        members =
            λ g. (λ h. (members g).0 ((all.members g).0 h), λ h. (all.members g).1 ((members g).1 h));
        once = all.once;
      }

  -- each picture that was published is that of its update
  pub pictures_at : IsSchedule config events → take (length events) events ≡ events
      → ShowsEachUpdate config (state_after config events).pictures
  pictures_at lawful whole =
      rw whole at (holds_after lawful (length events) (omega arith)).pictures.each
