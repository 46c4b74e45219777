-- A world, a scene with the bank of its world, and a saved world, as contracts see them
-- (docs/WORLD.md, "The end of an update", "Genotypes and their numbers" and "Saved worlds").
use Rattle.std.specs.Prelude.{◌≡◌, ◌++◌, List, Some, map, slice_get, ℕ, Option, slice_set, ◌+◌, ◌*◌, ◌≤◌, ◌^◌, length, None}
use Rattle.world_core.specs.Prelude.{IsPrefix, All, Letter, genome_in, Delivered, HasEachOnce, Link, option_to_list, Scene, Occupant, id_at, World, Stats, ConfigValues, stats_of, world_of, world_after, organism_values, SavedState, state_of_world, values_in, CanGoOn}
use Rattle.saved_lines.specs.declared.resident.Resident.{Resident}
use Rattle.virtual_cpu.specs.View.{image_of}
pub use Rattle.world_rules.specs.World.{genomes_ever}

-- the genome of a newborn has its number in this bank
abbrev pub HasNumber : List (List Letter) → Delivered → Type 0
HasNumber bank d = slice_get bank d.handle.number ≡ Some (genome_in d)

-- a bank has these newborns' genomes: numbers stay, each genome stands once, each has its number
pub record TakesIn (old new : List (List Letter)) (births : List Delivered) : Type 0 where
  pub stays : IsPrefix old new
  pub each : HasEachOnce new (old ++ map genome_in births)
  pub numbers : All (HasNumber new) births

-- a scene, how many organisms there were as it began, and the bank's genomes, each at its number
pub record SceneValue : Type 0 where
  pub update : ℕ
  pub cells : List (Option Occupant)
  pub everyone : List Link
  pub first : ℕ
  pub gone : List ℕ
  pub bank : List (List Letter)

-- the scene alone
abbrev pub scene_in : SceneValue → Scene
scene_in s = record { update = s.update; cells = s.cells; everyone = s.everyone; gone = s.gone }

-- the scene once somebody stands in the cell, and who stood there is among the dead
abbrev pub with_occupant : SceneValue → ℕ → Occupant → SceneValue
with_occupant s cell o = record s {
  cells = slice_set s.cells cell (Some o);
  gone = s.gone ++ option_to_list (id_at s.cells cell);
}

-- all numbers stay, and a bank that had each genome of these organisms once has each of those once
pub record Grows (old new : List (List Letter)) (before after : List Link) : Type 0 where
  pub stays : IsPrefix old new
  pub each : HasEachOnce old (genomes_ever before) → HasEachOnce new (genomes_ever after)

-- a configuration's world after so many updates, and the genomes of its bank, each at its number
pub record WorldValue : Type 0 where
  pub config : ConfigValues
  pub update : ℕ
  pub bank : List (List Letter)

-- the world that it is
abbrev pub world_in : WorldValue → World
world_in v = world_after v.config v.update

-- the scene and its statistics are those of this configuration's world, and the scene is settled
pub record IsWorldOf (config : ConfigValues) (scene : SceneValue) (stats : Stats) : Type 0 where
  pub world : world_of (scene_in scene) ≡ world_after config scene.update
  pub counts : stats ≡ stats_of config scene.update
  pub size : length scene.cells ≡ config.width * config.height
  pub few : length scene.everyone ≤ 2 ^ 33 * (scene.update + 1)
  pub settled : scene.first ≡ length scene.everyone
  pub updates : scene.update ≤ 1000000
  pub bank : HasEachOnce scene.bank (genomes_ever scene.everyone)

-- the state that a scene is, under a configuration whose events are over
abbrev pub state_in : ConfigValues → SceneValue → SavedState
state_in config scene = state_of_world config (world_of (scene_in scene))

-- a scene is settled, and its state can go on under this configuration, whose events are over
pub record IsState (config : ConfigValues) (scene : SceneValue) : Type 0 where
  pub over : config.updates ≤ scene.update
  pub settled : scene.first ≡ length scene.everyone
  pub valid : CanGoOn (state_in config scene)

-- the update and all organisms ever in a scene stay
pub record KeepsPast (before after : SceneValue) : Type 0 where
  pub update : after.update ≡ before.update
  pub everyone : after.everyone ≡ before.everyone
  pub first : after.first ≡ before.first

-- a resident has the values of who stands in a cell; there is none exactly where nobody stands
abbrev pub IsResidentIn : ℕ → Option Occupant → Option Resident → Type 0
IsResidentIn cell None None = Unit {0}
IsResidentIn cell None (Some resident) = ⊥
IsResidentIn cell (Some o) None = ⊥
IsResidentIn cell (Some o) (Some resident) =
    (organism_values resident ≡ values_in cell o)
    × (resident.image.cpu ≡ image_of o.organism.machine)
