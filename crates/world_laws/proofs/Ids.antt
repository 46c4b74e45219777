-- The ids of a run are few: those of all who ever were in its world, and those of its log.
use Rattle.std.proofs.Common.{◌≡◌, ℕ, ◌+◌, ◌^◌, ◌<◌, ◌≤◌, List, [], ◌∷◌, ◌++◌, length, sym, subst, ◌∙◌, arith}
use Rattle.std.specs.Prelude.{All, option_map}
use Rattle.world_laws.proofs.Prelude.{AllByRecursion, filter_map, flat_map, scan, zip, All-from_recursion, slice_get-get_or, Placing, Line, Cleared, Death, End, Reads, EventValue, WhatValue, inject, clear, rate, ConfigValues, World, Scene, cells_from, standing_at, with_death, Delivery, after_births, after_burials, after_event, after_lives, births_of, deaths_of, events_at, lives_after, placings_of, with_newborn, birth_line, birth_lines, death_lines, event_lines, lines_of_event, lines_of_lives, log_text, update_lines, what_lines, IsNumberedWorld, world_after, LifeLaws, GivesSmallId, IsConfig, all_append, People}
use Rattle.world_laws.proofs.LeavingLines.{leaving_lines}
use Rattle.world_laws.proofs.AfterLives.{IsBorn, births_born}
use Rattle.world_laws.proofs.Configs.{FitsPlaced, events_few, events_fit}
use Rattle.world_laws.proofs.Sounds.{goes_birth, goes_births, goes_deaths, goes_event}
use Rattle.world_laws.proofs.Runs.{IsRun, few_born, lives_lawful}
use Rattle.world_laws.proofs.WholeLogs.{each_update, kept_after, run_after, run_lines, updates_lines}
use Rattle.world_laws.proofs.RunForms.{everyone_few}
use Rattle.world_laws.proofs.Replays.{ReadLaw, run_reads}

-- each of these lines gives a small id, if it gives one
abbrev GiveSmall : List Line → Type 0
GiveSmall lines = AllByRecursion GivesSmallId lines

-- the lines of who dies in these cells, or is cleared from them, give no id
small_deaths : (line_of : Scene → ℕ → ℕ → Line)
    → ((scene : Scene) (cell id : ℕ) → GivesSmallId (line_of scene cell id))
    → (scene : Scene) (cells : List ℕ)
    → GiveSmall (filter_map (λ line. line) (scan with_death
    (λ s cell. option_map (line_of s cell) (standing_at s cell)) scene cells))
small_deaths line_of quiet scene cells =
    leaving_lines GivesSmallId line_of (λ _. Unit {0}) (λ _ _ _. tt) (λ s cell id _ _. quiet s cell id)
    scene cells tt

module _ (laws : LifeLaws) (config : ConfigValues) (fit : IsConfig config) where
  -- the lines of births
  small_births : (scene : Scene) (births : List Delivery) (placings : List Placing)
      → length scene.everyone + length births ≤ 2 ^ 58 → AllByRecursion (IsBorn config) births
      → GiveSmall (scan (with_newborn config) birth_line scene (zip births placings))
  small_births scene (b ∷ births) (p ∷ placings) few are =
      let next = with_newborn config scene (b, p) in
      let goes = goes_birth laws config fit scene (b, p) are.0 in
      (omega (arith, few), small_births next births placings (omega (arith, few, goes.few)) are.1)
  small_births scene _ _ few are = tt

  -- the lines of an event
  small_what : (scene : Scene) (what : WhatValue) → length scene.everyone < 2 ^ 58
      → GiveSmall (what_lines scene what)
  small_what scene (inject cell letters) few = (few, tt)
  small_what scene (clear first last) few =
      small_deaths (λ s cell id. Cleared id s.update cell) (λ s cell id. tt) scene
      (cells_from first last)
  small_what scene (rate name ppm) few = (tt, tt)

  -- the lines of events
  small_events : (scene : Scene) (events : List (ℕ × EventValue))
      → length scene.everyone + length events ≤ 2 ^ 58 → AllByRecursion (FitsPlaced config) events
      → GiveSmall (flat_map (λ lines. lines)
      (scan (after_event config) lines_of_event scene events))
  small_events scene [] few fits = tt
  small_events scene (event ∷ events) few fits =
      let next = after_event config scene event in
      let goes = goes_event laws config fit scene event fits.0 in
      all_append GivesSmallId (lines_of_event scene event)
      (flat_map (λ lines. lines) (scan (after_event config) lines_of_event next events))
      (small_what scene event.1.what (omega (arith, few)))
      (small_events next events (omega (arith, few, goes.few)) fits.1)

  -- the lines of an update
  small_update : (n : ℕ) (start : People) (w : World) → IsRun config n start w
      → length w.everyone + 65537000 ≤ 2 ^ 58 → GiveSmall (update_lines config w)
  unfolding update_lines lines_of_lives after_burials after_births
  small_update n start w is few =
      let lives = lives_after config w in
      let births = births_of lives in
      let scene = after_lives (w.update + 1) w.everyone lives in
      let buried = after_burials scene lives in
      let born = after_births config buried births in
      let events = events_at config born.update in
      let placings = placings_of config buried births in
      let are = births_born config _ w.cells lives (lives_lawful laws config fit n start w is) in
      let number = few_born laws config fit n start w is in
      let gone = goes_deaths scene (deaths_of lives) in
      let come = goes_births laws config fit buried births placings are in
      let deaths = death_lines scene (deaths_of lives) in
      let before = all_append GivesSmallId deaths (birth_lines config buried births)
      (small_deaths (λ s cell id. Death id s.update cell) (λ s cell id. tt) scene (deaths_of lives))
      (small_births buried births placings (omega (arith, few, number, gone.few)) are) in
      let last = small_events born events
      (omega (arith, few, number, gone.few, come.few, events_few config fit born.update))
      (events_fit config fit born.update) in
      all_append GivesSmallId
      (deaths ++ birth_lines config buried births ++ event_lines config born) _
      (all_append GivesSmallId (deaths ++ birth_lines config buried births)
      (event_lines config born) before last) (tt, tt)

  -- the lines of so many updates give small ids, if they give any
  small_updates : (n : ℕ) → n ≤ 4294967295 → GiveSmall (updates_lines config n)
  small_updates = each_update config GivesSmallId
      (λ n early. small_update n (kept_after config n) (world_after config n)
      (run_after laws config fit n) (omega (arith, everyone_few laws config fit n, early)))

  module _ (n : ℕ) (early : n ≤ 4294967295) where
    -- all who ever were in a world
    pub people_are_few : IsNumberedWorld (world_after config n)
        → All (λ link. link.id < 2 ^ 58) (world_after config n).everyone
    people_are_few numbered place d low =
        let everyone = (world_after config n).everyone in
        let has = numbered.everyone place _ (slice_get-get_or everyone place d low) in
        omega (arith, has.id, low, everyone_few laws config fit n, early)

    -- the lines that the log of a run is read as
    pub log_gives_few : ReadLaw → (lines : List Line) → Reads (log_text config n) lines
        → All GivesSmallId lines
    log_gives_few read lines reads =
        let both = sym (run_reads laws read config fit n early) ∙ reads in
        let same : run_lines config n ≡ lines = cc in
        let all = all_append GivesSmallId (updates_lines config n) (End n ∷ [])
        (small_updates n early) (tt, tt) in
        subst (All GivesSmallId) same (All-from_recursion GivesSmallId (run_lines config n) (tt, all))
