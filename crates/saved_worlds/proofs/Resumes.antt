-- The worlds of a state and of its run agree, update by update, and so do their lines.
use Rattle.std.proofs.Common.{◌≡◌, ℕ, zero, suc, ◌+◌, ◌<◌, ◌≤◌, List, [], ◌++◌, length, refl, sym, ap, ◌∙◌, arith, append_assoc, add-zero, append-nil}
use Rattle.saved_worlds.proofs.Prelude.{length-replicate, ConfigValues, World, Scene, rates_at, CellLife, after_lives, deaths_of, after_burials, births_of, after_births, after_events, events_at, last_scene, scene_of_lives, world_of, lives_after, next_scene, next_world, world_after, event_lines, lines_of_lives, update_lines, head_text, update_text, updates_text, end_text, log_text, head_at, state_of_world, state_of, config_of_head, forgotten, world_of_state, with_world, next_state, saved_state_after, next_text, later_texts, continued_text}
use Rattle.lineage_log.specs.LogGrammar.{lines_text}
use Rattle.saved_worlds.proofs.Quiet.{HappensInTime, no_events, rates_stay, lives_same}
use Rattle.saved_worlds.proofs.Alike.{Alike, death_lines_same, burials_alike, births_alike, birth_lines_same, stats_same}
use Rattle.world_rules.proofs.Updates.{update_of}

module _ (config : ConfigValues) (over : HappensInTime config) (w : World)
    (ended : config.updates ≤ w.update) where
  -- what the head of the world's state goes on with, as a configuration
  abbrev headed : ConfigValues
  headed = config_of_head (head_at config w.update (length w.everyone))

  -- the world that the state goes on from
  abbrev saved : World
  saved = world_of_state (state_of_world config w)

  -- the update after it
  abbrev next : ℕ
  next = w.update + 1

  -- it comes after the last update of the run
  later : config.updates < next
  later = omega (arith, ended)

  -- a configuration without events has none in an update
  none_headed : (u : ℕ) → events_at headed u ≡ []
  unfolding events_at
  none_headed u = refl

  -- as the lives have ended
  start_alike : (lives : List CellLife)
      → Alike next (after_lives next saved.everyone lives) (after_lives next w.everyone lives)
  start_alike lives = record {
    here = refl;
    there = refl;
    cells = refl;
    gone = refl;
    count = length-replicate (length w.everyone) forgotten;
  }

  -- once the events are over they change nothing
  quiet : (c : ConfigValues) (s : Scene) → events_at c s.update ≡ [] → after_events c s ≡ s
  unfolding after_events
  quiet c s none = rw none refl

  -- nor do they write lines
  quiet_lines : (c : ConfigValues) (s : Scene) → events_at c s.update ≡ [] → event_lines c s ≡ []
  quiet_lines c s none = rw none refl

  -- the scenes after burials and births
  born_alike : (lives : List CellLife)
      → Alike next (after_births headed
      (after_burials (after_lives next saved.everyone lives) lives) (births_of lives))
      (after_births config (after_burials (after_lives next w.everyone lives) lives)
      (births_of lives))
  born_alike lives = births_alike next config w.update (length w.everyone) (births_of lives) _ _
      (burials_alike next lives _ _ (start_alike lives))

  -- the scenes at the end of the update
  last_alike : (lives : List CellLife)
      → Alike next (last_scene headed (after_lives next saved.everyone lives) lives)
      (last_scene config (after_lives next w.everyone lives) lives)
  unfolding last_scene
  last_alike lives =
      let a = after_births headed (after_burials (after_lives next saved.everyone lives) lives)
      (births_of lives) in
      let b = after_births config (after_burials (after_lives next w.everyone lives) lives)
      (births_of lives) in
      let h : Alike next a b = born_alike lives in
      let first : after_events headed a ≡ a = quiet headed a (none_headed a.update) in
      let second : after_events config b ≡ b =
      quiet config b (ap (events_at config) h.there ∙ no_events config over next later) in
      rw (first, second) h

  -- the lives of the saved world are those of the run's
  lives_alike : lives_after headed saved ≡ lives_after config w
  lives_alike = lives_same config over w.update (length w.everyone) ended next w.cells later

  -- the scene after the saved world is like that after the run's
  scene_alike : Alike next (next_scene headed saved) (next_scene config w)
  unfolding next_scene scene_of_lives
  scene_alike = rw lives_alike (last_alike (lives_after config w))

  -- the next state
  state_from : (a b : Scene) → Alike next a b → rates_at config next ≡ rates_at config (next + 1)
      → with_world (state_of_world config w) (world_of a) ≡ state_of_world config (world_of b)
  state_from a b h stay = rw (h.here, h.there, h.count, h.cells, stay) refl

  -- the state after the state of a world is that of the next world
  pub next_state_is : next_state (state_of_world config w)
      ≡ state_of_world config (next_world config w)
  unfolding next_state next_world
  next_state_is = state_from (next_scene headed saved) (next_scene config w) scene_alike
      (rates_stay config over next (next + 1) later (omega (arith, later)))

  -- of the same lives the update writes the same lines after both worlds
  lines_alike : (lives : List CellLife)
      → lines_of_lives headed (after_lives next saved.everyone lives) lives
      ≡ lines_of_lives config (after_lives next w.everyone lives) lives
  unfolding lines_of_lives
  lines_alike lives =
      let a = after_lives next saved.everyone lives in
      let b = after_lives next w.everyone lives in
      let buried = burials_alike next lives a b (start_alike lives) in
      let h = born_alike lives in
      let deaths = death_lines_same next (deaths_of lives) a b (start_alike lives) in
      let births = birth_lines_same next config w.update (length w.everyone) (births_of lives)
      (after_burials a lives) (after_burials b lives) buried in
      let none = quiet_lines headed (after_births headed (after_burials a lives) (births_of lives))
      (none_headed _) in
      let nothing = quiet_lines config
      (after_births config (after_burials b lives) (births_of lives))
      (ap (events_at config) h.there ∙ no_events config over next later) in
      let stats = stats_same next (last_scene headed a lives) (last_scene config b lives)
      (length (births_of lives)) (last_alike lives) in
      rw (deaths, births, none, nothing, stats) refl

  -- the update writes the same lines after both worlds
  update_lines_same : update_lines headed saved ≡ update_lines config w
  unfolding update_lines
  update_lines_same =
      rw lives_alike (lines_alike (lives_after config w))

  -- the text of the update
  pub next_text_is : next_text (state_of_world config w) ≡ lines_text (update_lines config w)
  unfolding next_text
  next_text_is = ap lines_text update_lines_same

module _ (config : ConfigValues) (over : HappensInTime config) where
  -- a world of the run past its last event is past its end
  past : (more : ℕ) → config.updates ≤ (world_after config (config.updates + more)).update
  past more = omega (arith, update_of config (config.updates + more))

  -- one more update added makes one more in all
  one_more : (more : ℕ) → config.updates + suc more ≡ suc (config.updates + more)
  one_more more = omega arith

  -- the state after so many more updates
  pub state_goes_on : (more : ℕ)
      → saved_state_after (state_of config) more
      ≡ state_of_world config (world_after config (config.updates + more))
  unfolding saved_state_after state_of world_after
  state_goes_on zero =
      rw add-zero refl
  state_goes_on (suc more) =
      ap next_state (state_goes_on more)
      ∙ next_state_is config over (world_after config (config.updates + more)) (past more)
      ∙ ap (λ k. state_of_world config (world_after config k)) (sym (one_more more))

  -- the text of one more update
  text_goes_on : (more : ℕ)
      → next_text (saved_state_after (state_of config) more)
      ≡ update_text config (suc (config.updates + more))
  unfolding update_text
  text_goes_on more =
      ap next_text (state_goes_on more)
      ∙ next_text_is config over (world_after config (config.updates + more)) (past more)

  -- the texts of so many more updates
  pub texts_go_on : (more : ℕ)
      → updates_text config config.updates ++ later_texts (state_of config) more
      ≡ updates_text config (config.updates + more)
  texts_go_on zero =
      rw (add-zero, append-nil (updates_text config config.updates)) refl
  texts_go_on (suc more) =
      let front = updates_text config config.updates in
      let others = later_texts (state_of config) more in
      let text = next_text (saved_state_after (state_of config) more) in
      rw (← append_assoc front others text, texts_go_on more, text_goes_on more, one_more more) refl

  -- the head of the run's state has the run's update
  head_update : (state_of config).head.update ≡ config.updates
  unfolding state_of
  head_update = update_of config config.updates

  -- the log of the longer run
  pub log_goes_on : (more : ℕ)
      → (head_text config ++ updates_text config config.updates)
      ++ continued_text (state_of config) more ≡ log_text config (config.updates + more)
  unfolding continued_text log_text
  log_goes_on more =
      let head = head_text config in
      let front = updates_text config config.updates in
      let others = later_texts (state_of config) more in
      let end = end_text ((state_of config).head.update + more) in
      let last : end ≡ end_text (config.updates + more) =
      ap (λ k. end_text (k + more)) head_update in
      rw (
        ← append_assoc (head ++ front) others end,
        append_assoc head front others,
        texts_go_on more,
        last,
      ) refl
