-- A saved world: what a run leaves at its end, and no more, and its text (docs/WORLD.md, "Saved
-- worlds"; docs/FORMATS.md, "Saved worlds").
use Rattle.std.specs.Prelude.{ℕ, ◌+◌, List, Option, length, [], ◌++◌, None, Some}
use Rattle.world_config.specs.Values.{ConfigValues}
use Rattle.world_rules.specs.World.{Occupant, World, ids_of}
use Rattle.world_rules.specs.Settings.{rates_at}
use Rattle.world_rules.specs.WorldRun.{world_after}
use Rattle.saved_lines.specs.SavedValues.{HeadValues, OrganismValues}
use Rattle.std.specs.List.{enumerate_from, flat_map}
use Rattle.lineage_log.specs.Reader.{taken}
use Rattle.virtual_cpu.specs.View.{image_of}
use Rattle.saved_lines.specs.SavedText.{saved_head_text, resident_text, count_text}

-- the values of the first line, and who stands in each cell
pub record SavedState : Type 0 where
  pub head : HeadValues
  pub cells : List (Option Occupant)

-- the head of a run after so many updates, with this next id and the rates of the next update
abbrev pub head_at : ConfigValues → ℕ → ℕ → HeadValues
head_at config update next_id = record {
  width = config.width;
  height = config.height;
  update = update;
  next_id = next_id;
  seed = config.seed;
  average_slices = config.average_slices;
  death = config.death;
  age_limit = config.age_limit;
  rates = rates_at config (update + 1);
  prefer_empty = config.prefer_empty;
  rules = config.rules;
  memory_limit = config.memory_limit;
}

-- the state of a run's world
abbrev pub state_of_world : ConfigValues → World → SavedState
state_of_world config w =
    record { head = head_at config w.update (length w.everyone); cells = w.cells }

-- the state of the world at the end of a configuration's run
unfoldable pub state_of : ConfigValues → SavedState
state_of config = state_of_world config (world_after config config.updates)

-- the values of the line of who stands in a cell
abbrev pub values_in : ℕ → Occupant → OrganismValues
values_in cell o = record {
  cell = cell;
  id = o.id;
  merit = o.organism.merit;
  credited = o.organism.credited;
  age = o.organism.age;
  read = o.organism.read;
  gestation = o.organism.gestation;
  inputs = o.organism.inputs;
  genome = o.organism.genome;
}

-- the lines of who stands in a cell
abbrev pub slot_text : ℕ → Option Occupant → List ℕ
slot_text cell None = []
slot_text cell (Some o) = resident_text (values_in cell o) (image_of o.organism.machine)

-- the lines of a cell, given with its number
abbrev pub cell_text : ℕ × Option Occupant → List ℕ
cell_text place = slot_text place.0 place.1

-- the text of a saved world: its head, who stands in the cells, in order, and how many they are
unfoldable pub saved_text : SavedState → List ℕ
saved_text state =
    saved_head_text state.head
    ++ flat_map cell_text (enumerate_from 0 state.cells)
    ++ count_text (taken (ids_of state.cells))
