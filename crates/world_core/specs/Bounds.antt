-- What holds of the numbers of every world, so that none leaves its range (docs/WORLD.md, "The end
-- of an update").
use Rattle.std.specs.Prelude.{◌≡◌, ℕ, ◌+◌, ◌*◌, ◌<◌, ◌≤◌, ◌^◌, All, Option, None, Some, List, length, map, slice_get}
use Rattle.world_core.specs.Prelude.{IsNonDecreasing, Letter, OrganismState, ConfigValues, Occupant, Delivery}

-- after so many updates who stands in a cell has no greater age and merit, from a saved age on
abbrev pub IsBoundedIn : ℕ → Option Occupant → Type 0
IsBoundedIn update None = Unit {0}
IsBoundedIn update (Some o) =
    (o.organism.age < 2 ^ 48 + 2 ^ 27 * update) × (o.organism.merit ≤ 2 ^ 38)

-- so has who stands in each cell
abbrev pub AreBounded : ℕ → List (Option Occupant) → Type 0
AreBounded update cells = All (IsBoundedIn update) cells

-- an organism can come in any update: its genome has this number, its age and merit are low enough
pub record CanStand (bank : List (List Letter)) (number : ℕ) (o : OrganismState) : Type 0 where
  pub genome : slice_get bank number ≡ Some o.genome
  pub age : o.age < 2 ^ 48
  pub merit : o.merit ≤ 2 ^ 38

-- a newborn of a cell of the world, which fits its machine
pub record IsDelivery (config : ConfigValues) (cells : ℕ) (d : Delivery) : Type 0 where
  pub cell : d.cell < cells
  pub genome : length d.newborn.genome ≤ config.rules.greatest
  pub merit : d.newborn.merit ≤ 2 ^ 38

-- the newborns of an update, in the order of their cells
pub record AreDeliveries (config : ConfigValues) (cells : ℕ) (births : List Delivery) : Type 0 where
  pub each : All (IsDelivery config cells) births
  pub rising : IsNonDecreasing (map (λ d. d.cell) births)
  pub few : length births < 2 ^ 32

-- the lives of an update keep the bounds of the cells and of the newborns
pub record AreBoundedLives (config : ConfigValues) (update : ℕ) (left : List (Option Occupant))
    (born : List Delivery) : Type 0 where
  pub cells : AreBounded update left
  pub births : AreDeliveries config (length left) born
