-- In which ranges the organisms and the ids of a run stay, and what a life keeps (docs/WORLD.md,
-- "Saved worlds" and "The life of one update").
use Rattle.std.specs.Prelude.{◌≡◌, ℕ, ◌+◌, List, [], Option, Some, slice_get, ◌*◌, ◌^◌, ◌<◌, ◌≤◌, true, length}
use Rattle.world_laws.specs.Prelude.{HasLived, IsSoundOrganism, beginning, LifeState, life, draw, ConfigValues, Occupant, World, Line, Birth, Injected, OrganismState}
use Rattle.random_streams.specs.declared.purpose.Purpose.TheVariants.{Run}
use Rattle.world_rules.specs.Settings.{settings_at}
use Rattle.logic_tasks.specs.Inputs.{HasTopBytes}

-- a later state of a life: nothing but a birth changes the merit and the credited set
pub record HasKept (start now : LifeState) : Type 0 where
  pub genome : now.organism.genome ≡ start.organism.genome
  pub merit : now.newborns ≡ [] → now.organism.merit ≡ start.organism.merit
  pub credited : now.newborns ≡ [] → now.organism.credited ≡ start.organism.credited

-- each who stands in these cells is sound
abbrev pub AreSound : List (Option Occupant) → Type 0
AreSound cells =
    (cell : ℕ) (o : Occupant)
    → slice_get cells cell ≡ Some (Some o)
    → IsSoundOrganism o.organism

-- the living go on through an update sound, with their genomes, and with few newborns, all allowed
abbrev pub LiveOn : ConfigValues → World → Type 0
LiveOn config w =
    (cell steps : ℕ) (o : Occupant)
    → slice_get w.cells cell ≡ Some (Some o)
    → HasLived (settings_at config (w.update + 1)) o.organism steps
    (life (settings_at config (w.update + 1)) (draw config.seed (w.update + 1) cell Run)
    (beginning o.organism) steps).0

-- an organism younger than this, with an allowed length, the world's memory limit, nine-task sets
pub record IsInRange (config : ConfigValues) (ages : ℕ) (o : OrganismState) : Type 0 where
  pub least : config.rules.least ≤ length o.genome
  pub greatest : length o.genome ≤ config.rules.greatest
  pub age : o.age < ages
  pub young : config.death ≡ true → o.age < config.age_limit * length o.genome
  pub limit : o.machine.limit ≡ config.memory_limit
  pub credited : length o.credited ≡ 9
  pub gestation : length o.gestation ≡ 9
  pub inputs : HasTopBytes o.inputs

-- who stand in these cells have ids below the next one, and in different cells different ones
pub record HaveOwnIds (cells : List (Option Occupant)) (next_id : ℕ) : Type 0 where
  pub given : (cell : ℕ) (o : Occupant)
      → slice_get cells cell ≡ Some (Some o)
      → o.id < next_id
  pub apart : (cell other : ℕ) (o x : Occupant)
      → slice_get cells cell ≡ Some (Some o)
      → slice_get cells other ≡ Some (Some x)
      → o.id ≡ x.id
      → cell ≡ other

-- a world after so many updates has all its cells, and gave few ids, to each organism its own
pub record HasFewIds (config : ConfigValues) (updates : ℕ) (w : World) : Type 0 where
  pub update : w.update ≡ updates
  pub cells : length w.cells ≡ config.width * config.height
  pub some : 1 ≤ length w.everyone
  pub few : length w.everyone ≤ 1 + 65537000 * updates
  pub own : HaveOwnIds w.cells (length w.everyone)

-- all cells are there, and who stand in them are sound, younger than this, in range, with own ids
pub record StandInRange (config : ConfigValues) (ages : ℕ) (w : World) : Type 0 where
  pub cells : length w.cells ≡ config.width * config.height
  pub sound : AreSound w.cells
  pub each : (cell : ℕ) (o : Occupant)
      → slice_get w.cells cell ≡ Some (Some o)
      → IsInRange config ages o.organism
  pub own : HaveOwnIds w.cells (length w.everyone)

-- one update later they still are, older by few steps, and few ids were given
pub record StayInRange (config : ConfigValues) (ages : ℕ) (w next : World) : Type 0 where
  pub stand : StandInRange config (ages + 65536000) next
  pub update : next.update ≡ w.update + 1
  pub grown : length w.everyone ≤ length next.everyone
  pub few : length next.everyone ≤ length w.everyone + 65537000

-- a line of a birth or an injection gives an id below 2 ^ 58
abbrev pub GivesSmallId : Line → Type 0
GivesSmallId (Birth id parent update cell over birth) = id < 2 ^ 58
GivesSmallId (Injected id update cell over genome) = id < 2 ^ 58
GivesSmallId line = Unit {0}
