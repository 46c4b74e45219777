-- The end of an update, once all its lives have ended (docs/WORLD.md, "The end of an update" and
-- "Events"). The ids of parents and of the dead are looked up by their cells. For example, if
-- organism 7 stood in cell 41 as the update began, a newborn from cell 41 has the parent 7.
use Rattle.std.specs.Prelude.{ℕ, List, [], Option, None, option_map, if◌then◌else◌, map, slice_index_or, ◌≡◌, ◌+◌, ◌++◌, ◌≤◌, ◌^◌, ◌∷◌, length, ◌<◌}
use Rattle.world_core.specs.Prelude.{flat_map, enumerate_from, option_to_list, RoundNumbers, newborn_in, Delivered, Line, Death, Count, ConfigValues, CellLife, settings_at, Delivery, delivery_of, after_births, after_events, next_scene, world_of, Occupant, Scene, Letter, Stats, birth_lines, event_lines, next_stats, scene_stats, WhatValue, inject, clear, rate}
use Rattle.world_core.specs.declared.lived.Lived.{Lived}
use Rattle.world_config.specs.declared.limits.TheConstants.{MOST_EVENTS}
use Rattle.world_core.specs.Scenes.{TakesIn, Grows, SceneValue, scene_in}

-- what all lives of an update share
abbrev pub round_of : ConfigValues → ℕ → RoundNumbers
round_of config update =
    record { seed = config.seed; update = update; settings = settings_at config update }

-- who stands in a cell once the dead have left
abbrev pub staying_in : CellLife → Option Occupant
staying_in l = if l.died then None else l.occupant

-- a newborn of this parent, with the parent's cell
abbrev pub delivery_from : ℕ → Delivered → Delivery
delivery_from parent d = delivery_of d.cell parent (newborn_in d)

-- a newborn, with its parent's cell and the id of that cell
abbrev pub delivery_at : List ℕ → Delivered → Delivery
delivery_at ids d = delivery_from (slice_index_or ids d.cell 0) d

-- all newborns of an update
abbrev pub deliveries_in : Lived → List Delivery
deliveries_in lived = map (delivery_at lived.ids.items) lived.born.items

-- the cell where somebody died of age, with the id of the cell
abbrev pub departure_by : List ℕ → ℕ → ℕ × ℕ
departure_by ids cell = (cell, slice_index_or ids cell 0)

-- all who died of age in an update
abbrev pub departures_in : Lived → List (ℕ × ℕ)
departures_in lived = map (departure_by lived.ids.items) lived.died.items

-- who died of age in a cell, which has this place among the lives
abbrev pub departed_in : ℕ × CellLife → List (ℕ × ℕ)
departed_in place =
    if place.1.died
    then option_to_list (option_map (λ o. (place.0, o.id)) place.1.occupant)
    else []

-- who died of age in these cells, which go on from this one
abbrev pub departed_from : ℕ → List CellLife → List (ℕ × ℕ)
departed_from first lives = flat_map departed_in (enumerate_from first lives)

-- the line of a death of age in an update
abbrev pub departure_line : ℕ → ℕ × ℕ → Line
departure_line update one = Death one.1 update one.0

-- the scene once these are among the dead of the update
abbrev pub with_departed : Scene → List (ℕ × ℕ) → Scene
with_departed scene dead = record scene { gone = scene.gone ++ map (λ one. one.1) dead }

-- the scene once the newborns stand in their cells too
abbrev pub with_births : ConfigValues → Scene → List (ℕ × ℕ) → List Delivery → Scene
with_births config scene dead births = after_births config (with_departed scene dead) births

-- the lines of those that died of age, of the births and the events, and of what is counted
abbrev pub last_lines :
    ConfigValues → Scene → List (ℕ × ℕ) → List Delivery → Stats → List Line
last_lines config scene dead births stats =
    map (departure_line scene.update) dead
    ++ birth_lines config (with_departed scene dead) births
    ++ event_lines config (with_births config scene dead births)
    ++ Count stats ∷ []

-- a scene after all lives, with these dead and newborns, comes to the one after all events; a bank
-- that took in the newborns then grows as the list of all does
pub record Ends (config : ConfigValues) (lived : Lived) (before after : SceneValue)
    (stats : Stats) : Type 0 where
  pub scene : scene_in after ≡ after_events config
      (with_births config (scene_in before) (departures_in lived) (deliveries_in lived))
  pub counts : stats ≡ scene_stats (scene_in after) (length lived.born.items)
  pub size : length after.cells ≡ length before.cells
  pub few : length after.everyone ≤ length before.everyone + length lived.born.items + MOST_EVENTS
  pub first : after.first ≡ before.first
  pub bank : (old : List (List Letter)) → TakesIn old before.bank lived.born.items
      → Grows old after.bank before.everyone after.everyone

-- an update leads from a scene to another one, and this is counted at its end
pub record IsNext (config : ConfigValues) (before after : SceneValue) (stats : Stats) : Type 0 where
  pub scene : scene_in after ≡ next_scene config (world_of (scene_in before))
  pub counts : stats ≡ next_stats config (world_of (scene_in before))
  pub update : after.update ≡ before.update + 1
  pub size : length after.cells ≡ length before.cells
  pub few : length after.everyone ≤ length before.everyone + 2 ^ 33
  pub first : after.first ≡ before.first
  pub bank : Grows before.bank after.bank before.everyone after.everyone

-- its cells are among so many, and its genome is no longer than the greatest length
abbrev pub CanHappen : ℕ → ℕ → WhatValue → Type 0
CanHappen cells greatest (inject cell letters) = (cell < cells) × (length letters ≤ greatest)
CanHappen cells greatest (clear first last) = last < cells
CanHappen cells greatest (rate name ppm) = Unit {0}
