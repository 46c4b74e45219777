-- A world between two updates or within one, and the world of a founder alone (docs/WORLD.md, "The
-- founder" and "The end of an update"). Cells are numbered from 0, and None is an empty one. For
-- example, the first world of 3 by 2 cells whose founder cell is 4 has six cells, of which only
-- cell 4 has an organism, with id 0; if a newborn comes into cell 4, then organism 0 is gone.
use Rattle.std.specs.Prelude.{ℕ, ◌+◌, ◌*◌, List, [], ◌∷◌, length, map, replicate, Option, None, Some, option_map, slice_index_or, slice_set, ◌-◌, ◌++◌, fold}
use Rattle.world_rules.specs.Prelude.{Letter, no_tasks, Place, draw, OrganismState, new_organism, Link, ConfigValues, range_with_len}
use Rattle.logic_tasks.specs.Inputs.{inputs_of}
use Rattle.std.specs.Option.{option_to_list}

-- an organism in a cell, with its id
pub record Occupant : Type 0 where
  pub id : ℕ
  pub organism : OrganismState

-- a world after an update: who stands in each cell, and the links of all organisms ever, by id
pub record World : Type 0 where
  pub update : ℕ
  pub cells : List (Option Occupant)
  pub everyone : List Link

-- the id of who stands in a place
abbrev pub id_of : Option Occupant → Option ℕ
id_of slot = option_map (λ o. o.id) slot

-- the id of who stands in each cell
abbrev pub ids_of : List (Option Occupant) → List (Option ℕ)
ids_of cells = map id_of cells

-- the id of who stands in a cell
abbrev pub id_at : List (Option Occupant) → ℕ → Option ℕ
id_at cells cell = id_of (slice_index_or cells cell None)

-- the three random words of update 0 that make the inputs of the founder with this number
abbrev pub founder_words : ℕ → ℕ → ℕ → List ℕ
founder_words seed cell nth =
    draw seed 0 cell Place (3 * nth)
    ∷ draw seed 0 cell Place (3 * nth + 1)
    ∷ draw seed 0 cell Place (3 * nth + 2)
    ∷ []

-- a founder in a cell: the configuration's own has number 0, an injected one its event's, from 1
unfoldable pub founder_of : ConfigValues → ℕ → ℕ → List Letter → OrganismState
founder_of config cell nth letters =
    new_organism letters (inputs_of (founder_words config.seed cell nth)) (length letters) no_tasks
    config.memory_limit

-- how a founder stands in the list of all
abbrev pub founder_link : ℕ → ℕ → ℕ → List Letter → Link
founder_link id update cell letters =
    record { id = id; parent = None; update = update; cell = cell; origin = None; genome = letters }

-- the cells of a world in which nobody stands
abbrev pub empty_cells : ConfigValues → List (Option Occupant)
empty_cells config = replicate (config.width * config.height) None

-- the organism of the ancestor, with id 0
abbrev pub first_occupant : ConfigValues → Occupant
first_occupant config =
    record { id = 0; organism = founder_of config config.founder_cell 0 config.ancestor }

-- the world of update 0: the configuration's founder alone
unfoldable pub first_world : ConfigValues → World
first_world config = record {
  update = 0;
  cells = slice_set (empty_cells config) config.founder_cell (Some (first_occupant config));
  everyone = founder_link 0 0 config.founder_cell config.ancestor ∷ [];
}

-- the update, who stands in each cell, all organisms ever, by id, and the ids of the update's dead
pub record Scene : Type 0 where
  pub update : ℕ
  pub cells : List (Option Occupant)
  pub everyone : List Link
  pub gone : List ℕ

-- the genomes of these organisms at birth, in their order
abbrev pub genomes_ever : List Link → List (List Letter)
genomes_ever everyone = map (λ link. link.genome) everyone

-- the next id
abbrev pub next_id : Scene → ℕ
next_id scene = length scene.everyone

-- the id of who stands in a cell of the scene
abbrev pub standing_at : Scene → ℕ → Option ℕ
standing_at scene cell = id_at scene.cells cell

-- who stands in the cell dies
unfoldable pub with_death : Scene → ℕ → Scene
with_death scene cell = record scene {
  cells = slice_set scene.cells cell None;
  gone = scene.gone ++ option_to_list (standing_at scene cell);
}

-- all that stand in these cells die
abbrev pub with_deaths : Scene → List ℕ → Scene
with_deaths scene cells = fold with_death scene cells

-- the cells from the first to the last
abbrev pub cells_from : ℕ → ℕ → List ℕ
cells_from first last = range_with_len first (last + 1 - first)

-- somebody new, with the id of this link, stands in its cell, and who stood there dies
unfoldable pub with_newcomer : Scene → Link → OrganismState → Scene
with_newcomer scene link organism = record scene {
  cells = slice_set scene.cells link.cell (Some (record { id = link.id; organism = organism }));
  everyone = scene.everyone ++ link ∷ [];
  gone = scene.gone ++ option_to_list (standing_at scene link.cell);
}
