-- One update: lives, burials, births, events (docs/WORLD.md, "The end of an update", "Placing
-- births" and "Events"). For example, if an organism has borne a child and then died of age, first
-- its cell is emptied, then the child is placed, perhaps there, and then the events happen.
use Rattle.std.specs.Prelude.{ℕ, ◌+◌, ◌==◌, List, [], length, map, filter, fold, Option, None, Some, slice_index_or}
use Rattle.world_rules.specs.Prelude.{range_with_len, flat_map, zip, enumerate_from, Placing, NewbornValue, OrganismState, new_organism, Link, EventValue, WhatValue, inject, clear, rate, ConfigValues}
use Rattle.birth_board.specs.Placement.{placements_of}
use Rattle.world_rules.specs.World.{Occupant, World, ids_of, founder_of, founder_link, Scene, next_id, with_deaths, cells_from, with_newcomer}
use Rattle.world_rules.specs.Settings.{torus_of, placing_round_at}
use Rattle.world_rules.specs.Lives.{CellLife, no_life, lives_of}

-- the scene as all lives have ended, with the dead still in their cells
abbrev pub after_lives : ℕ → List Link → List CellLife → Scene
after_lives update everyone lives =
    record { update = update; cells = map (λ l. l.occupant) lives; everyone = everyone; gone = [] }

-- the cells whose organism died of age, rising
unfoldable pub deaths_of : List CellLife → List ℕ
deaths_of lives =
    filter (λ cell. (slice_index_or lives cell no_life).died) (range_with_len 0 (length lives))

-- once those that died of age have left their cells
unfoldable pub after_burials : Scene → List CellLife → Scene
after_burials scene lives = with_deaths scene (deaths_of lives)

-- a newborn, with its parent's cell and id
pub record Delivery : Type 0 where
  pub cell : ℕ
  pub parent : ℕ
  pub newborn : NewbornValue

-- a newborn of this parent in this cell
abbrev pub delivery_of : ℕ → ℕ → NewbornValue → Delivery
delivery_of cell parent newborn = record { cell = cell; parent = parent; newborn = newborn }

-- the newborns of an organism in a cell, in order of birth
abbrev pub births_by : ℕ → List NewbornValue → Option Occupant → List Delivery
births_by cell newborns None = []
births_by cell newborns (Some o) = map (delivery_of cell o.id) newborns

-- the newborns of a cell, which has this place among the lives
abbrev pub births_in : ℕ × CellLife → List Delivery
births_in place = births_by place.0 place.1.newborns place.1.occupant

-- the newborns in order of cell and birth
unfoldable pub births_of : List CellLife → List Delivery
births_of lives = flat_map births_in (enumerate_from 0 lives)

-- where these newborns are placed, one after another
unfoldable pub placings_of : ConfigValues → Scene → List Delivery → List Placing
placings_of config scene births =
    (placements_of (torus_of config) (map (λ b. b.cell) births) (ids_of scene.cells)
    (placing_round_at config scene.update (next_id scene))).placings

-- how a newborn stands in the list of all
abbrev pub birth_link : ℕ → ℕ → Delivery → ℕ → Link
birth_link id update b cell = record {
  id = id;
  parent = Some b.parent;
  update = update;
  cell = cell;
  origin = Some b.newborn.origin;
  genome = b.newborn.genome;
}

-- a newborn as an organism
abbrev pub child_of_birth : ConfigValues → Delivery → Placing → OrganismState
child_of_birth config b placing =
    new_organism b.newborn.genome placing.inputs b.newborn.merit b.newborn.credited
    config.memory_limit

-- a newborn stands in the cell of its placing, with the next id
unfoldable pub with_newborn : ConfigValues → Scene → Delivery × Placing → Scene
with_newborn config scene turn =
    with_newcomer scene (birth_link (next_id scene) scene.update turn.0 turn.1.cell)
    (child_of_birth config turn.0 turn.1)

-- the newborns with their placings
abbrev pub turns_of : ConfigValues → Scene → List Delivery → List (Delivery × Placing)
turns_of config scene births = zip births (placings_of config scene births)

-- once these newborns are placed, one after another
unfoldable pub after_births : ConfigValues → Scene → List Delivery → Scene
after_births config scene births = fold (with_newborn config) scene (turns_of config scene births)

-- the events of an update, each with its place in the list, from 1
unfoldable pub events_at : ConfigValues → ℕ → List (ℕ × EventValue)
events_at config update = filter (λ event. event.1.update == update) (enumerate_from 1 config.event)

-- after what an event does; a rate changes nobody
abbrev pub after_what : ConfigValues → Scene → ℕ → WhatValue → Scene
after_what config scene nth (inject cell letters) =
    with_newcomer scene (founder_link (next_id scene) scene.update cell letters)
    (founder_of config cell nth letters)
after_what config scene nth (clear first last) = with_deaths scene (cells_from first last)
after_what config scene nth (rate name ppm) = scene

-- after an event, given with its place in the list
unfoldable pub after_event : ConfigValues → Scene → ℕ × EventValue → Scene
after_event config scene event = after_what config scene event.0 event.1.what

-- after the events of the scene's update, in order
unfoldable pub after_events : ConfigValues → Scene → Scene
after_events config scene = fold (after_event config) scene (events_at config scene.update)

-- the end of an update: burials, then births, then events
unfoldable pub last_scene : ConfigValues → Scene → List CellLife → Scene
last_scene config scene lives =
    after_events config (after_births config (after_burials scene lives) (births_of lives))

-- the scene at the end of the update after a world, given the lives of its cells
unfoldable pub scene_of_lives : ConfigValues → World → List CellLife → Scene
scene_of_lives config w lives =
    last_scene config (after_lives (w.update + 1) w.everyone lives) lives

-- the world that a scene leaves
abbrev pub world_of : Scene → World
world_of scene = record { update = scene.update; cells = scene.cells; everyone = scene.everyone }

-- the lives of the update after a world
abbrev pub lives_after : ConfigValues → World → List CellLife
lives_after config w = lives_of config (w.update + 1) w.cells

-- the scene at the end of the update after a world
unfoldable pub next_scene : ConfigValues → World → Scene
next_scene config w = scene_of_lives config w (lives_after config w)

-- the world after one more update
unfoldable pub next_world : ConfigValues → World → World
next_world config w = world_of (next_scene config w)
