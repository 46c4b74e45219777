-- The lives of an update, all from one start (docs/WORLD.md, "Time slices" and "The life of one
-- update"): each cell lives alone. For example, if only cell 1 of two cells has an organism, cell 0
-- has no_life, and the life of cell 1 says what its organism became and bore.
use Rattle.std.specs.Prelude.{ℕ, Bool, false, List, [], length, map, Option, None, Some, option_map, slice_index_or}
use Rattle.world_rules.specs.Prelude.{range_with_len, Run, draw, NewbornValue, OrganismState, ConfigValues}
use Rattle.merit_slices.specs.Slices.{slices_of}
use Rattle.organism.specs.Lived.{OrganismLife, life_by}
use Rattle.world_rules.specs.World.{Occupant}
use Rattle.world_rules.specs.Settings.{settings_at}

-- a cell's life: who stands there after the last step, whether it died of age, and its newborns
pub record CellLife : Type 0 where
  pub occupant : Option Occupant
  pub died : Bool
  pub newborns : List NewbornValue

-- the life of an empty cell: nothing
abbrev pub no_life : CellLife
no_life = record { occupant = None; died = false; newborns = [] }

-- the merit in a cell, 0 where it is empty
abbrev pub merit_in : Option Occupant → ℕ
merit_in None = 0
merit_in (Some o) = o.organism.merit

-- the steps of each cell, by the merits as the update begins
unfoldable pub slices_at : ConfigValues → List (Option Occupant) → List ℕ
slices_at config cells = slices_of (map merit_in cells) config.average_slices

-- the steps of one cell
abbrev pub slice_at : ConfigValues → List (Option Occupant) → ℕ → ℕ
slice_at config cells cell = slice_index_or (slices_at config cells) cell 0

-- the organism, if there is one, with this id
abbrev pub with_id : ℕ → Option OrganismState → Option Occupant
with_id id slot = option_map (λ organism. record { id = id; organism = organism }) slot

-- the life of the organism with this id
abbrev pub cell_life : ℕ → OrganismLife → CellLife
cell_life id l =
    record { occupant = with_id id l.organism; died = l.died; newborns = l.newborns }

-- the life of who stands in a cell, with its run stream in this update, of at most so many steps
unfoldable pub life_of : ConfigValues → ℕ → ℕ → ℕ → Option Occupant → CellLife
life_of config update cell steps None = no_life
life_of config update cell steps (Some o) =
    cell_life o.id
    (life_by (settings_at config update) (draw config.seed update cell Run) steps
    (Some o.organism))

-- the life of a cell of these cells, as the update begins
abbrev pub life_at : ConfigValues → ℕ → List (Option Occupant) → ℕ → CellLife
life_at config update cells cell =
    life_of config update cell (slice_at config cells cell) (slice_index_or cells cell None)

-- the lives of all cells, in their order
unfoldable pub lives_of : ConfigValues → ℕ → List (Option Occupant) → List CellLife
lives_of config update cells = map (life_at config update cells) (range_with_len 0 (length cells))
