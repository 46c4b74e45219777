-- How long a run is changes none of its worlds.
use Rattle.std.proofs.Common.{◌≡◌, ℕ, zero, suc, List, map, length, slice_index_or, refl, Option, None, Some}
use Rattle.std.specs.Prelude.{fold}
use Rattle.avida_program.proofs.Prelude.{range_with_len, EventValue, WhatValue, inject, clear, rate, ConfigValues, Scene, Occupant, World, first_world, founder_of, rates_at, settings_at, world_after}
use Rattle.world_rules.specs.Lives.{life_of, lives_of, slice_at, slices_at}
use Rattle.world_rules.specs.Update.{Delivery, after_births, after_event, after_events, after_what, events_at, last_scene, next_scene, next_world, placings_of, scene_of_lives, with_newborn}

module _ (config : ConfigValues) (updates : ℕ) where
  -- the configuration with so many updates
  abbrev other : ConfigValues
  other = record config { updates = updates }

  -- a life
  life_stays : (u cell steps : ℕ) (slot : Option Occupant)
      → life_of other u cell steps slot ≡ life_of config u cell steps slot
  unfolding life_of settings_at rates_at
  life_stays u cell steps None = refl
  life_stays u cell steps (Some o) = refl

  -- the lives of an update
  lives_stay : (u : ℕ) (cells : List (Option Occupant))
      → lives_of other u cells ≡ lives_of config u cells
  unfolding lives_of slices_at
  lives_stay u cells = λ i.
      map (λ cell. life_stays u cell (slice_at config cells cell) (slice_index_or cells cell None) i)
      (range_with_len 0 (length cells))

  -- all births
  births_stay : (s : Scene) (births : List Delivery)
      → after_births other s births ≡ after_births config s births
  unfolding after_births with_newborn placings_of
  births_stay s births = refl

  -- what an event does
  what_stays : (s : Scene) (nth : ℕ) (what : WhatValue)
      → after_what other s nth what ≡ after_what config s nth what
  unfolding founder_of
  what_stays s nth (inject cell letters) = refl
  what_stays s nth (clear first last) = refl
  what_stays s nth (rate name ppm) = refl

  -- all events of an update
  events_stay : (s : Scene) → after_events other s ≡ after_events config s
  unfolding after_event after_events events_at
  events_stay s = λ i.
      fold (λ (here : Scene) (event : ℕ × EventValue). what_stays here event.0 event.1.what i) s
      (events_at config s.update)

  -- the next world
  pub next_stays : (w : World) → next_world other w ≡ next_world config w
  unfolding next_world next_scene scene_of_lives last_scene
  next_stays w = rw (lives_stay, births_stay, events_stay) refl

  -- the world after some updates
  pub world_stays : (n : ℕ) → world_after other n ≡ world_after config n
  unfolding world_after first_world founder_of
  world_stays zero = refl
  world_stays (suc n) = rw (world_stays n) (next_stays (world_after config n))
