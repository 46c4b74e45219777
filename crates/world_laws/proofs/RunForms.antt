-- Each line of a run has its form, and together they are the text of its log.
use Rattle.std.proofs.Common.{◌≡◌, ℕ, zero, suc, ◌+◌, ◌*◌, ◌<◌, ◌≤◌, [], ◌∷◌, ◌++◌, length, refl, arith}
use Rattle.world_laws.proofs.Prelude.{append_assoc, append-nil, End, HasForm, line_text, lines_text, ConfigValues, World, first_world, Scene, after_lives, after_burials, deaths_of, births_of, placings_of, turns_of, after_births, events_at, after_events, last_scene, lives_after, world_after, death_lines, birth_lines, event_lines, lines_of_lives, update_lines, head_line, head_text, update_text, end_text, updates_text, log_text, LifeLaws, IsConfig, size_of, all_append, People, genome-fits}
use Rattle.std.proofs.lemmas.List.Concat.{flat_map-append}
use Rattle.world_laws.proofs.UpdateLines.{scene_deaths, scene_births}
use Rattle.world_laws.proofs.Updates.{scene_last}
use Rattle.world_laws.proofs.AfterLives.{births_born, sound_kept}
use Rattle.world_laws.proofs.Configs.{events_fit, events_few, few_cells, genome_fits}
use Rattle.world_laws.proofs.Sounds.{Goes, goes_deaths, goes_births}
use Rattle.world_laws.proofs.Runs.{IsRun, scene_ended, lives_lawful, deliveries_lawful, placed_lawful, update_goes, few_born, few_come}
use Rattle.world_laws.proofs.WholeLogs.{updates_lines, run_lines, each_update, kept_after, run_after}
use Rattle.world_laws.proofs.FormLemmas.{count_form}
use Rattle.world_laws.proofs.Forms.{Forms, HasRoom, deaths_fit, births_fit, events_fit_forms}

-- once some have come, there is room for the rest
room_after : (scene next : Scene) (count deaths more : ℕ) → Goes scene next count deaths
    → HasRoom scene (count + more) → HasRoom next more
room_after scene next count deaths more goes room =
    record {
      ids = omega (arith, goes.few, room.ids);
      early = omega (arith, goes.update, room.early);
    }

-- room for more is room for fewer
room_less : (scene : Scene) (more less : ℕ) → less ≤ more → HasRoom scene more → HasRoom scene less
room_less scene more less h room = record { ids = omega (arith, room.ids, h); early = room.early }

module _ (laws : LifeLaws) (config : ConfigValues) (fit : IsConfig config) where
  -- the number of cells
  abbrev size : ℕ
  size = size_of config

  -- the lines of an update from the scene as its lives have ended
  update_forms : (n : ℕ) (start : People) (w : World) (is : IsRun config n start w) → n < 4294967295
      → length w.everyone + 65537000 ≤ 18446744073709551615 → Forms (update_lines config w)
  unfolding update_lines lines_of_lives after_burials after_births last_scene after_events
  update_forms n start w is early few =
      let lives = lives_after config w in
      let births = births_of lives in
      let scene = after_lives (w.update + 1) w.everyone lives in
      let buried = after_burials scene lives in
      let born = after_births config buried births in
      let events = events_at config born.update in
      let last = last_scene config scene lives in
      let placings = placings_of config buried births in
      let small = few_cells config fit in
      let number : length births ≤ 65536000 = few_born laws config fit n start w is in
      let events_number : length events ≤ 1000 = events_few config fit born.update in
      let is_ended = scene_ended laws config fit n start w is in
      let is_buried = scene_deaths size start scene (deaths_of lives) is_ended in
      let is_born =
      scene_births size start config buried (turns_of config buried births) is_buried in
      let lawful = deliveries_lawful laws config fit n start w is in
      let room : HasRoom scene (0 + (length births + 1000)) =
      record { ids = omega (arith, few, number); early = omega (arith, is.update, early) } in
      let room_buried : HasRoom buried (length births + 1000) =
      room_after scene buried 0 (length (deaths_of lives)) (length births + 1000)
      (goes_deaths scene (deaths_of lives)) room in
      let room_born : HasRoom born 1000 =
      room_after buried born (length births) (length births) 1000
      (goes_births laws config fit buried births placings
      (births_born config _ w.cells lives (lives_lawful laws config fit n start w is)))
      room_buried in
      let goes = update_goes laws config fit n start w is in
      let deaths = deaths_fit size start small scene (0 + (length births + 1000))
      (deaths_of lives) is_ended room in
      let births_forms = births_fit size start small config buried births placings is_buried
      (room_less buried (length births + 1000) (length births) (omega arith) room_buried) lawful
      (placed_lawful laws config fit n start w is buried) in
      let events_forms = events_fit_forms start config fit born events is_born
      (room_less born 1000 (length events) events_number room_born)
      (events_fit config fit born.update) in
      let is_last = scene_last size start config scene lives is_ended in
      let counted = count_form last (length births)
      (goes.sound (sound_kept config _ 0 w.cells lives
      (lives_lawful laws config fit n start w is))) (omega (arith, is_last.sized, small))
      (omega (arith, goes.update, is.update, early)) (omega (arith, number))
      (omega (arith, goes.gone, number)) in
      all_append HasForm (death_lines scene (deaths_of lives) ++ birth_lines config buried births
      ++ event_lines config born) _
      (all_append HasForm (death_lines scene (deaths_of lives) ++ birth_lines config buried births)
      (event_lines config born)
      (all_append HasForm (death_lines scene (deaths_of lives)) (birth_lines config buried births)
      deaths births_forms) events_forms) (counted, tt)

  -- all who ever were in a world are few
  pub everyone_few : (n : ℕ) → length (world_after config n).everyone ≤ 1 + 65537000 * n
  unfolding world_after first_world
  everyone_few zero = omega arith
  everyone_few (suc n) =
      let before = everyone_few n in
      let come = few_come laws config fit n (kept_after config n) (world_after config n)
      (run_after laws config fit n) in
      omega (arith, before, come)

  -- the lines of so many updates have their forms
  updates_forms : (n : ℕ) → n ≤ 4294967295 → Forms (updates_lines config n)
  updates_forms = each_update config HasForm
      (λ n early. update_forms n (kept_after config n) (world_after config n)
      (run_after laws config fit n) early (omega (arith, everyone_few n, early)))

  -- each line of a run
  pub run_forms : (n : ℕ) → n ≤ 4294967295 → Forms (run_lines config n)
  run_forms n h =
      let small = few_cells config fit in
      let head : HasForm (head_line config) = (
        (omega arith, omega arith),
        (fit.columns, fit.few_columns),
        (fit.rows, fit.few_rows),
        (omega arith, omega (arith, fit.founder, small)),
        genome-fits config.ancestor
            (genome_fits config fit config.ancestor fit.long_enough fit.short_enough),
      ) in (
        head,
        all_append HasForm (updates_lines config n) (End n ∷ []) (updates_forms n h)
            ((omega arith, h), tt),
      )

-- the texts of updates are those of their lines
updates_are : (config : ConfigValues) (n : ℕ)
    → lines_text (updates_lines config n) ≡ updates_text config n
unfolding update_text
updates_are config zero = refl
updates_are config (suc n) =
    rw (flat_map-append, updates_are config n) refl

-- the text of a run's lines is its log
pub text_is : (config : ConfigValues) (n : ℕ) → lines_text (run_lines config n) ≡ log_text config n
unfolding log_text head_text end_text
text_is config n =
    let all = flat_map-append line_text (updates_lines config n) (End n ∷ []) in
    let last = append-nil (line_text (End n)) in
    rw (all, updates_are config n, last, append_assoc (line_text (head_line config))) refl
