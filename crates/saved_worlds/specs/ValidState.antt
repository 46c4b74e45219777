-- Which saved worlds go on (docs/FORMATS.md, "Saved worlds").
use Rattle.std.specs.Prelude.{◌≡◌, ◌≢◌, ℕ, ◌+◌, ◌*◌, ◌<◌, ◌≤◌, ◌^◌, true, All, List, Some, length, slice_get}
use Rattle.logic_tasks.specs.Inputs.{HasTopBytes}
use Rattle.organism.specs.Lived.{IsSoundOrganism}
use Rattle.mutations.specs.RecordForm.{IsWithin}
use Rattle.world_rules.specs.World.{Occupant}
use Rattle.world_laws.specs.Ranges.{StandInRange}
pub use Rattle.saved_lines.specs.SavedForms.{AreRates, IsHead, IsHeadUpTo}
use Rattle.saved_lines.specs.SavedValues.{HeadValues, organism_values}
use Rattle.saved_lines.specs.declared.resident.Resident.{Resident}
use Rattle.saved_worlds.specs.Resuming.{config_of_head, world_of_state}
use Rattle.saved_worlds.specs.SavedOrder.{Placed, placed_of}
use Rattle.saved_worlds.specs.SavedState.{SavedState}

-- an organism that may stand in a world with this head
pub record MayLive (head : HeadValues) (o : Occupant) : Type 0 where
  pub sound : IsSoundOrganism o.organism
  pub id : o.id < head.next_id
  pub genome : IsWithin head.rules.least head.rules.greatest (length o.organism.genome)
  pub age : o.organism.age < 2 ^ 48
  pub young : head.death ≡ true → o.organism.age < head.age_limit * length o.organism.genome
  pub limit : o.organism.machine.limit ≡ head.memory_limit
  pub credited : length o.organism.credited ≡ 9
  pub gestation : length o.organism.gestation ≡ 9
  pub inputs : HasTopBytes o.organism.inputs

-- so does who stands in a cell of the world
pub record MayStandThere (head : HeadValues) (placed : Placed) : Type 0 where
  pub cell : placed.cell < head.width * head.height
  pub occupant : MayLive head placed.occupant

-- a head and organisms of which a saved world can be made: in the order of cells, with own ids
pub record AreSaved (head : HeadValues) (placed : List Placed) : Type 0 where
  pub values : IsHead head
  pub each : All (MayStandThere head) placed
  pub rising : (place next : ℕ) (one other : Placed)
      → place < next
      → slice_get placed place ≡ Some one
      → slice_get placed next ≡ Some other
      → (one.cell < other.cell) × (one.occupant.id ≢ other.occupant.id)

-- the organism of a resident, in its cell
abbrev pub placed_in : HeadValues → Resident → Placed
placed_in head resident = placed_of head (organism_values resident) resident.image.cpu

-- its head and who stand in it are in range; the bounds of next id and ages rise with the update
pub record CanGoOn (state : SavedState) : Type 0 where
  pub head : IsHeadUpTo (2 ^ 62 + 2 ^ 32 * state.head.update) state.head
  pub stand : StandInRange (config_of_head state.head) (2 ^ 48 + 2 ^ 27 * state.head.update)
      (world_of_state state)

-- its next id and its ages are such as a saved world's lines have
pub record FitsText (state : SavedState) : Type 0 where
  pub next_id : state.head.next_id ≤ 2 ^ 62
  pub ages : (cell : ℕ) (o : Occupant)
      → slice_get state.cells cell ≡ Some (Some o)
      → o.organism.age < 2 ^ 48

-- they still are after so many updates
pub record HasRoomFor (state : SavedState) (more : ℕ) : Type 0 where
  pub next_id : state.head.next_id + 65537000 * more ≤ 2 ^ 62
  pub ages : (cell : ℕ) (o : Occupant)
      → slice_get state.cells cell ≡ Some (Some o)
      → o.organism.age + 65536000 * more < 2 ^ 48
