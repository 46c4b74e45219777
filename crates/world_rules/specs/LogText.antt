-- The log of a run, from which alone one knows who lives at its end, in which cell and with which
-- genome (docs/WORLD.md, "The log of a run"; docs/FORMATS.md, "The log"). For example, the log of a
-- run of 0 updates is its `L` line and `E 0`. A line speaks of the scene before it: that of a birth
-- says who stood in the cell, and so dies.
use Rattle.std.specs.Prelude.{ℕ, zero, suc, ◌+◌, List, [], ◌∷◌, ◌++◌, length, Option, option_map, ◌≡◌}
use Rattle.world_rules.specs.Prelude.{filter_map, flat_map, scan, Placing, Line, Start, Death, Birth, Injected, Cleared, Rate, Count, End, line_text, EventValue, WhatValue, inject, clear, rate, ConfigValues, replay_of}
use Rattle.lineage_log.specs.LogGrammar.{lines_text, Reads}
use Rattle.world_rules.specs.World.{World, Scene, next_id, standing_at, with_death, cells_from}
use Rattle.world_rules.specs.Lives.{CellLife}
use Rattle.world_rules.specs.Statistics.{scene_stats}
use Rattle.world_rules.specs.Update.{Delivery, after_lives, deaths_of, after_burials, births_of, with_newborn, turns_of, after_births, events_at, after_event, last_scene, lives_after}
use Rattle.world_rules.specs.WorldRun.{world_after, residents_of_world}

-- the line of a death of age, where somebody stands in the cell
abbrev pub death_line : Scene → ℕ → Option Line
death_line scene cell = option_map (λ id. Death id scene.update cell) (standing_at scene cell)

-- the lines of deaths of age in these cells, each by the scene before it
abbrev pub death_lines : Scene → List ℕ → List Line
death_lines scene cells = filter_map (λ line. line) (scan with_death death_line scene cells)

-- the line of a birth, by the scene before it
abbrev pub birth_line : Scene → Delivery × Placing → Line
birth_line scene turn =
    Birth (next_id scene) turn.0.parent scene.update turn.1.cell (standing_at scene turn.1.cell)
    turn.0.newborn.origin

-- the lines of births, each by the scene before it
abbrev pub birth_lines : ConfigValues → Scene → List Delivery → List Line
birth_lines config scene births =
    scan (with_newborn config) birth_line scene (turns_of config scene births)

-- the line of who is cleared from a cell, where somebody is
abbrev pub cleared_line : Scene → ℕ → Option Line
cleared_line scene cell = option_map (λ id. Cleared id scene.update cell) (standing_at scene cell)

-- the lines of what an event does, by the scene before it
abbrev pub what_lines : Scene → WhatValue → List Line
what_lines scene (inject cell letters) =
    Injected (next_id scene) scene.update cell (standing_at scene cell) letters ∷ []
what_lines scene (clear first last) =
    filter_map (λ line. line) (scan with_death cleared_line scene (cells_from first last))
what_lines scene (rate name ppm) = Rate scene.update name ppm ∷ []

-- the lines of an event, by the scene before it
abbrev pub lines_of_event : Scene → ℕ × EventValue → List Line
lines_of_event scene event = what_lines scene event.1.what

-- the lines of the events of the scene's update, each by the scene before it
abbrev pub event_lines : ConfigValues → Scene → List Line
event_lines config scene =
    flat_map (λ lines. lines)
    (scan (after_event config) lines_of_event scene (events_at config scene.update))

-- the lines of an update, from the scene as these lives have ended: deaths, births, events, counts
unfoldable pub lines_of_lives : ConfigValues → Scene → List CellLife → List Line
lines_of_lives config scene lives =
    let buried = after_burials scene lives in
    let births = births_of lives in
    death_lines scene (deaths_of lives)
    ++ birth_lines config buried births
    ++ event_lines config (after_births config buried births)
    ++ Count (scene_stats (last_scene config scene lives) (length births)) ∷ []

-- the lines of the update that follows a world
unfoldable pub update_lines : ConfigValues → World → List Line
update_lines config w =
    lines_of_lives config (after_lives (w.update + 1) w.everyone (lives_after config w))
    (lives_after config w)

-- the first line of a run's log
abbrev pub head_line : ConfigValues → Line
head_line config = Start 2 config.width config.height config.founder_cell config.ancestor

-- the text of the first line
unfoldable pub head_text : ConfigValues → List ℕ
head_text config = line_text (head_line config)

-- the text of an update, from 1 on
unfoldable pub update_text : ConfigValues → ℕ → List ℕ
update_text config zero = []
update_text config (suc n) = lines_text (update_lines config (world_after config n))

-- the text of the last line, after so many updates
unfoldable pub end_text : ℕ → List ℕ
end_text updates = line_text (End updates)

-- the texts of so many updates, one after another
abbrev pub updates_text : ConfigValues → ℕ → List ℕ
updates_text config zero = []
updates_text config (suc n) = updates_text config n ++ update_text config (suc n)

-- the log of a run of so many updates
unfoldable pub log_text : ConfigValues → ℕ → List ℕ
log_text config updates = head_text config ++ updates_text config updates ++ end_text updates

-- the log of a run is a good one, and replays to who lives at its end
pub record ReplaysToLiving (config : ConfigValues) (updates : ℕ) : Type 0 where
  pub lines : List Line
  pub good : Reads (log_text config updates) lines
  pub replays : replay_of lines ≡ residents_of_world (world_after config updates)
