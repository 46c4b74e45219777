-- The lines of a run take the reader from the founder's world to that after its updates.
use Rattle.std.proofs.Common.{◌≡◌, ℕ, suc, ◌+◌, ◌<◌, ◌≤◌, List, [], ◌∷◌, map, length, ◌∙◌, arith}
use Rattle.std.specs.Prelude.{slice_index_or}
use Rattle.world_laws.proofs.Prelude.{AllByRecursion, range_with_len, length-map, length-map-range_with_len, length-range_with_len, Placing, Within, IsSoundOrganism, EventValue, WhatValue, inject, clear, rate, ConfigValues, World, ids_of, Scene, next_id, torus_of, placing_round_at, no_life, slice_at, life_at, lives_of, Delivery, after_lives, after_burials, deaths_of, births_of, placings_of, events_at, last_scene, scene_of_lives, lives_after, next_scene, next_world, lines_of_lives, update_lines, LifeLaws, IsConfig, size_of, FitsWhat, People}
use Rattle.std.proofs.lemmas.Slice.Zip.{length-zip}
use Rattle.birth_board.proofs.PlacementLemmas.{placements_number}
use Rattle.world_laws.proofs.Mirror.{between, seen_in, Tells}
use Rattle.world_laws.proofs.Scenes.{Each, IsScene}
use Rattle.world_laws.proofs.UpdateLines.{IsWhat, IsEvent}
use Rattle.world_laws.proofs.Updates.{IsWorld, people_after, world_left, scene_begun, begun_is, seen_begun, AreTurns, scene_last, lives_tell}
use Rattle.world_laws.proofs.Placements.{placements_in}
use Rattle.world_laws.proofs.LivesLemmas.{AreLives, lives_are}
use Rattle.world_laws.proofs.AfterLives.{IsDelivery, folk_kept, births_lawful, turns_lawful}
use Rattle.world_laws.proofs.Configs.{filter_few, FitsPlaced, events_fit, few_cells}
use Rattle.world_laws.proofs.Sounds.{Goes, goes_more}
use Rattle.world_laws.proofs.Endings.{all_born, all_come, end_goes, next_sound}

-- the parents of lawful newborns are in cells of the world
cells_in : (config : ConfigValues) (size : ℕ) (start : People) (births : List Delivery)
    → AllByRecursion (IsDelivery config size start) births
    → AllByRecursion (λ cell. cell < size) (map (λ b. b.cell) births)
cells_in config size start [] are = tt
cells_in config size start (b ∷ births) are =
    (are.0.within, cells_in config size start births are.1)

-- where what an event does fits, an injected organism's cell is in the world
what_is : (config : ConfigValues) (what : WhatValue) → FitsWhat config what
    → IsWhat (size_of config) what
what_is config (inject cell letters) fits = fits.0
what_is config (clear first last) fits = tt
what_is config (rate name ppm) fits = tt

-- so it is with all events that fit
pub events_are : (config : ConfigValues) (events : List (ℕ × EventValue))
    → AllByRecursion (FitsPlaced config) events → AllByRecursion (IsEvent (size_of config)) events
events_are config [] fits = tt
events_are config (event ∷ events) fits =
    (what_is config event.1.what fits.0, events_are config events fits.1)

-- a world after so many updates, and what a reader keeps of it
pub record IsRun (config : ConfigValues) (n : ℕ) (start : People) (w : World) : Type 0 where
  pub world : IsWorld (size_of config) start w.cells w.everyone
  pub sound : Each IsSoundOrganism w.cells
  pub update : w.update ≡ n

module _ (laws : LifeLaws) (config : ConfigValues) (fit : IsConfig config) (n : ℕ) (start : People)
    (w : World) (is : IsRun config n start w) where
  -- each life of the update keeps who stands in its cell, and bears few lawful newborns
  pub lives_lawful : AreLives config (slice_at config w.cells) 0 w.cells (lives_after config w)
  lives_lawful = lives_are laws config fit.rules (w.update + 1) w.cells is.sound

  -- the scene as the lives have ended
  abbrev pub ended : Scene
  ended = after_lives (w.update + 1) w.everyone (lives_after config w)

  -- what holds of a world within an update holds of the scene as the lives have ended
  pub scene_ended : IsScene (size_of config) start ended
  scene_ended = scene_begun (size_of config) start w (lives_after config w) is.world
      (folk_kept config (slice_at config w.cells) 0 w.cells (lives_after config w) lives_lawful)

  -- all newborns of the update are lawful
  pub deliveries_lawful : AllByRecursion (IsDelivery config (size_of config) start)
      (births_of (lives_after config w))
  deliveries_lawful = births_lawful config (size_of config) start (slice_at config w.cells) w.cells
      (lives_after config w) lives_lawful is.world.sized is.world.known

  -- they are placed in cells of the world
  pub placed_lawful : (scene : Scene)
      → AllByRecursion (λ (p : Placing). p.cell < size_of config)
      (placings_of config scene (births_of (lives_after config w)))
  unfolding placings_of
  placed_lawful scene =
      let births = births_of (lives_after config w) in
      let cells = cells_in config (size_of config) start births deliveries_lawful in
      placements_in (torus_of config) (map (λ b. b.cell) births) (ids_of scene.cells)
      (placing_round_at config scene.update (next_id scene)) cells

  -- there are as many placings as newborns
  pub placed_all : (scene : Scene)
      → length (placings_of config scene (births_of (lives_after config w)))
      ≡ length (births_of (lives_after config w))
  unfolding placings_of
  placed_all scene =
      let births = births_of (lives_after config w) in
      placements_number (torus_of config) (map (λ b. b.cell) births) (ids_of scene.cells)
      (placing_round_at config scene.update (next_id scene)) ∙ length-map births (λ b. b.cell)

  -- each newborn has a placing, and is lawful with it
  pub turns_are : AreTurns (size_of config) start config ended (lives_after config w) scene_ended
  turns_are =
      let births = births_of (lives_after config w) in
      let buried = after_burials ended (lives_after config w) in
      record {
        number =
            omega (arith, length-zip births (placings_of config buried births), placed_all buried);
        lawful = turns_lawful config (size_of config) start births
            (placings_of config buried births) deliveries_lawful (placed_lawful buried);
      }

  -- the scene at the end of the update
  abbrev last : Scene
  last = last_scene config ended (lives_after config w)

  -- the lines of the next update
  pub update_tells : Tells (Within (between start (w.update + 1) w.cells))
      (seen_in w.cells w.everyone) (update_lines config w)
      (Within (between (people_after start (next_scene config w)) ((next_world config w).update + 1)
      (next_world config w).cells))
      (seen_in (next_world config w).cells (next_world config w).everyone)
  unfolding update_lines next_world next_scene scene_of_lives
  update_tells =
      let size = size_of config in
      let lives = lives_after config w in
      let folk = folk_kept config (slice_at config w.cells) 0 w.cells lives lives_lawful in
      let lines = lines_of_lives config ended lives in
      let told = lives_tell size start config ended lives scene_ended turns_are
      (λ update. events_are config (events_at config update) (events_fit config fit update)) in
      rw (seen_begun size start w lives is.world folk) at
      (rw (begun_is size start w lives is.world folk) at told)

  -- few die of age
  pub few_deaths : length (deaths_of (lives_after config w)) ≤ size_of config
  unfolding deaths_of lives_of
  few_deaths =
      let lives = lives_after config w in
      let test = λ (cell : ℕ). (slice_index_or lives cell no_life).died in
      let run = life_at config (w.update + 1) w.cells in
      let number = length-map-range_with_len run 0 (length w.cells) in
      let fewer = filter_few test (range_with_len 0 (length lives)) in
      omega (arith, fewer, length-range_with_len 0 (length lives), number, is.world.sized)

  -- how an update goes
  pub update_goes : Goes ended last (length (births_of (lives_after config w)) + 1000)
      (65536 + length (births_of (lives_after config w)) + 65536000)
  update_goes =
      goes_more (end_goes laws config fit w is.sound) (omega arith)
      (omega (arith, few_deaths, few_cells config fit))

  -- the next world
  pub run_next : IsRun config (suc n) (people_after start (next_scene config w))
      (next_world config w)
  unfolding next_world next_scene scene_of_lives
  run_next =
      let lives = lives_after config w in
      let goes = update_goes in
      record {
        world = world_left (size_of config) start last
            (scene_last (size_of config) start config ended lives scene_ended);
        sound = next_sound laws config fit w is.sound;
        update = omega (arith, goes.update, is.update);
      }

  -- few are born in it
  pub few_born : length (births_of (lives_after config w)) ≤ 65536000
  few_born = all_born laws config fit w is.sound is.world.sized

  -- and few come in it
  pub few_come : length (next_world config w).everyone ≤ length w.everyone + 65537000
  few_come = all_come laws config fit w is.sound is.world.sized
