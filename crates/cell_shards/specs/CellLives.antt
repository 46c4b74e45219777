-- The lives of cells that lie side by side (docs/WORLD.md, "The life of one update"). For example,
-- a part whose first cell is 40 and that has three cells lives as the cells 40, 41 and 42 of the
-- world, each with its own stream, so it is the same however the world is cut.
use Rattle.std.specs.Prelude.{◌≤◌, None, Option, Some, length, ℕ, ◌+◌, ◌<◌, ◌^◌, List, [], ◌∷◌, map, option_map, slice_index_or, if◌then◌else◌}
use Rattle.genome.specs.Genome.{letters}
use Rattle.organism.specs.OrganismState.{OrganismState, new_organism}
use Rattle.cell_shards.specs.declared.pending_birth.PendingBirth.{PendingBirth}
use Rattle.std.specs.List.{range_with_len, flat_map, enumerate_from}
use Rattle.random_streams.specs.declared.purpose.Purpose.TheVariants.{Run}
use Rattle.random_streams.specs.RandomStream.{draw}
use Rattle.organism.specs.Newborns.{NewbornValue}
use Rattle.organism.specs.SettingNumbers.{SettingNumbers, setting_numbers}
use Rattle.organism.specs.Lived.{OrganismLife, life_by}
use Rattle.cell_shards.specs.declared.round.Round.{Round}
use Rattle.cell_shards.specs.declared.standing.Standing.{Standing}

-- the organism that begins with these values
abbrev pub begun : PendingBirth → OrganismState
begun p = new_organism (letters p.genome.value) p.inputs p.merit p.credited p.memory_limit

-- its genome fits a machine of its limit
pub record Fits (p : PendingBirth) : Type 0 where
  pub genome : length (letters p.genome.value) ≤ p.memory_limit
  pub greatest : p.memory_limit ≤ 8192

-- so does that of who is to be made, if somebody is
abbrev pub CanBeMade : Option PendingBirth → Type 0
CanBeMade None = Unit {0}
CanBeMade (Some p) = Fits p

-- who stands there: who is to be made, or else this organism
abbrev pub organism_once_made : OrganismState → Option PendingBirth → OrganismState
organism_once_made o None = o
organism_once_made o (Some p) = begun p

-- what all lives of an update share, as numbers
pub record RoundNumbers : Type 0 where
  pub seed : ℕ
  pub update : ℕ
  pub settings : SettingNumbers

-- the numbers of a round
abbrev pub round_numbers : Round → RoundNumbers
round_numbers round =
    record { seed = round.seed; update = round.update; settings = setting_numbers round.settings }

-- the life of who is in a cell, by the run stream of cell and update, of at most so many steps
abbrev pub shard_life_of : RoundNumbers → ℕ → ℕ → Option OrganismState → OrganismLife
shard_life_of round cell steps slot =
    life_by round.settings (draw round.seed round.update cell Run) steps slot

-- cells that lie side by side: the first one, who stands in each, and their steps
pub record Part : Type 0 where
  pub first : ℕ
  pub cells : List (Option OrganismState)
  pub slices : List ℕ

-- the cells from this one on
abbrev pub part_from : ℕ → List (Option OrganismState) → List ℕ → Part
part_from first cells slices = record { first = first; cells = cells; slices = slices }

-- the life of the cell at a place of a part, by that cell's own organism, steps and stream
abbrev pub shard_life_at : RoundNumbers → Part → ℕ → OrganismLife
shard_life_at round part place =
    shard_life_of round (part.first + place) (slice_index_or part.slices place 0)
    (slice_index_or part.cells place None)

-- the lives of the cells of a part, in their order
unfoldable pub shard_lives_of : RoundNumbers → Part → List OrganismLife
shard_lives_of round part = map (shard_life_at round part) (range_with_len 0 (length part.cells))

-- the organism in a cell once the dead have left
abbrev pub left_in : OrganismLife → Option OrganismState
left_in l = if l.died then None else l.organism

-- what is counted of an organism
abbrev pub standing_of : OrganismState → Standing
standing_of o = record { merit = o.merit; credited = o.credited }

-- what is counted of who stands in a cell
abbrev pub standing_in : Option OrganismState → Option Standing
standing_in slot = option_map standing_of slot

-- a newborn of this cell
abbrev pub born_in : ℕ → NewbornValue → ℕ × NewbornValue
born_in cell newborn = (cell, newborn)

-- the newborns of a cell, which has this place among the lives
abbrev pub newborns_in : ℕ × OrganismLife → List (ℕ × NewbornValue)
newborns_in place = map (born_in place.0) place.1.newborns

-- the newborns of these lives, whose cells go on from the first one, in order of cell and birth
abbrev pub births_from : ℕ → List OrganismLife → List (ℕ × NewbornValue)
births_from first lives = flat_map newborns_in (enumerate_from first lives)

-- a cell, which has this place among the lives, if its organism died of age
abbrev pub dead_in : ℕ × OrganismLife → List ℕ
dead_in place = if place.1.died then place.0 ∷ [] else []

-- the cells whose organism died of age, rising; they go on from the first one
abbrev pub deaths_from : ℕ → List OrganismLife → List ℕ
deaths_from first lives = flat_map dead_in (enumerate_from first lives)

-- who stands in a cell has an age that another update leaves in its range
abbrev pub IsYoung : Option OrganismState → Type 0
IsYoung None = Unit {0}
IsYoung (Some o) = o.age < 2 ^ 62
