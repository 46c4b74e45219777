-- The world after so many updates, and who lives in it (docs/WORLD.md, "The log of a run"). For
-- example, the world after 2 updates is next_world of next_world of first_world.
use Rattle.std.specs.Prelude.{ℕ, zero, suc, List, option_map}
use Rattle.world_rules.specs.Prelude.{filter_map, enumerate_from, Resident, ConfigValues}
use Rattle.world_rules.specs.World.{Occupant, World, first_world}
use Rattle.world_rules.specs.Update.{next_world}

-- the world after so many updates
unfoldable pub world_after : ConfigValues → ℕ → World
world_after config zero = first_world config
world_after config (suc n) = next_world config (world_after config n)

-- cell, id and genome of an organism
abbrev pub resident_of : ℕ → Occupant → Resident
resident_of cell o = record { cell = cell; id = o.id; genome = o.organism.genome }

-- cell, id and genome of each occupied cell, in the order of the cells
abbrev pub residents_of_world : World → List Resident
residents_of_world w =
    filter_map (λ place. option_map (resident_of place.0) place.1) (enumerate_from 0 w.cells)
