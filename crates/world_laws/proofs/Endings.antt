-- How an update ends, from sound organisms alone.
use Rattle.std.proofs.Common.{◌≡◌, ◌∙◌, sym, ◌+◌, ◌*◌, ◌≤◌, length, map, sum, arith}
use Rattle.world_laws.proofs.Prelude.{mul-le-mul, length-map, length-map-range_with_len, Run, draw, IsSoundOrganism, ConfigValues, World, Scene, life_at, lives_of, merit_in, slice_at, slices_at, settings_at, after_lives, after_burials, deaths_of, births_of, placings_of, after_births, events_at, after_events, last_scene, scene_of_lives, lives_after, next_scene, next_world, LiveOn, HaveOwnIds, LifeLaws, IsConfig, size_of}
use Rattle.world_laws.proofs.Scenes.{Each}
use Rattle.world_laws.proofs.LivesLemmas.{AreLives, lives_are}
use Rattle.world_laws.proofs.AfterLives.{births_born, births_few, entries_few, sound_kept, was_there}
use Rattle.world_laws.proofs.Configs.{events_fit, events_few, few_cells}
use Rattle.world_laws.proofs.Sounds.{Goes, goes_on, goes_deaths, goes_births, goes_events}

module _ (laws : LifeLaws) (config : ConfigValues) (fit : IsConfig config) (w : World)
    (sound : Each IsSoundOrganism w.cells) where
  -- the lives of sound organisms
  pub sound_lives : AreLives config (slice_at config w.cells) 0 w.cells (lives_after config w)
  sound_lives = lives_are laws config fit.rules (w.update + 1) w.cells sound

  -- sound organisms live on
  pub live_on : LiveOn config w
  unfolding settings_at
  live_on cell steps o here =
      laws.lives (settings_at config (w.update + 1)) (draw config.seed (w.update + 1) cell Run)
      o.organism steps fit.rules (laws.words config.seed (w.update + 1) cell Run)
      (sound cell o here)

  -- the scene as the lives have ended
  abbrev begun : Scene
  begun = after_lives (w.update + 1) w.everyone (lives_after config w)

  -- how the update ends
  pub end_goes : Goes begun (last_scene config begun (lives_after config w))
      (length (births_of (lives_after config w)) + 1000)
      (length (deaths_of (lives_after config w)) + length (births_of (lives_after config w))
      + 65536000)
  unfolding last_scene after_burials after_births after_events
  end_goes =
      let lives = lives_after config w in
      let births = births_of lives in
      let buried = after_burials begun lives in
      let born = after_births config buried births in
      let events = events_at config born.update in
      let few = events_few config fit born.update in
      let first : Goes begun born (length births) (length (deaths_of lives) + length births) =
      goes_on (goes_deaths begun (deaths_of lives))
      (goes_births laws config fit buried births (placings_of config buried births)
      (births_born config (slice_at config w.cells) w.cells lives sound_lives))
      (omega arith) (omega arith) in
      goes_on first (goes_events laws config fit born events (events_fit config fit born.update))
      (omega (arith, few)) (omega (arith, few))

  -- and each organism of the next world is sound
  pub next_sound : Each IsSoundOrganism (next_world config w).cells
  unfolding next_world next_scene scene_of_lives
  next_sound =
      end_goes.sound
      (sound_kept config (slice_at config w.cells) 0 w.cells (lives_after config w) sound_lives)

  -- the lives leave each its id
  own_begun : HaveOwnIds w.cells (length w.everyone) → HaveOwnIds begun.cells (length w.everyone)
  own_begun ids =
      let was = was_there config (slice_at config w.cells) 0 w.cells (lives_after config w)
      sound_lives in
      record {
        given = λ cell o h.
            let a = was cell o h in omega (arith, ids.given cell a.who a.stood, a.id);
        apart = λ cell other o x h k e.
            let a = was cell o h in
            let b = was other x k in
            ids.apart cell other a.who b.who a.stood b.stood (a.id ∙ e ∙ sym b.id);
      }

  -- so does the update
  pub next_own : HaveOwnIds w.cells (length w.everyone)
      → HaveOwnIds (next_world config w).cells (length (next_world config w).everyone)
  unfolding next_world next_scene scene_of_lives
  next_own ids = end_goes.own (own_begun ids)

  -- it has as many cells
  pub next_sized : length (next_world config w).cells ≡ length w.cells
  unfolding next_world next_scene scene_of_lives lives_of
  next_sized =
      end_goes.sized ∙ length-map (lives_after config w) (λ l. l.occupant)
      ∙ length-map-range_with_len (life_at config (w.update + 1) w.cells) 0 (length w.cells)

  module _ (sized : length w.cells ≡ size_of config) where
    -- all cells together get few steps in it
    pub all_steps : sum (slices_at config w.cells) ≤ 65536000
    unfolding slices_at
    all_steps =
        let merits = map merit_in w.cells in
        let all = laws.slices merits config.average_slices in
        let cells : length merits ≤ 65536 =
        omega (arith, length-map w.cells merit_in, sized, few_cells config fit) in
        let bound : config.average_slices * length merits ≤ 1000 * 65536 =
        mul-le-mul fit.average cells in
        omega (arith, all, bound)

    -- few are born in it
    pub all_born : length (births_of (lives_after config w)) ≤ 65536000
    all_born =
        let lives = lives_after config w in
        let few = births_few config (slice_at config w.cells) w.cells lives sound_lives in
        let entries = entries_few (slices_at config w.cells) (length w.cells) in
        omega (arith, few, entries, all_steps)

    -- and few come in it
    pub all_come : length (next_world config w).everyone ≤ length w.everyone + 65537000
    unfolding next_world next_scene scene_of_lives
    all_come = omega (arith, all_born, end_goes.few)

  -- nobody is forgotten in it
  pub all_grown : length w.everyone ≤ length (next_world config w).everyone
  unfolding next_world next_scene scene_of_lives
  all_grown = end_goes.grown
