-- What an update's jobs come to (docs/ARCHITECTURE.md, "Shards"). A job has a shard's cells and a
-- seat at the bank that numbers genomes. For example, if the organism of cell 41 bore a child and
-- died of age, 41 is left empty and among the dead, and the child's parent is at cell 41.
use Rattle.std.specs.Prelude.{◌≡◌, ℕ, ◌+◌, ◌<◌, ◌≤◌, ◌^◌, ◌++◌, All, List, [], ◌∷◌, Option, Some, length, map, slice_get, slice_index_or}
use mathlib.Core.List.{IsPrefix}
use Rattle.genome.specs.Genome.{letters}
use Rattle.genotype_bank.specs.BankHistory.{genotypes_of, SeatValue, own_calls_of}
use Rattle.genotype_bank.specs.declared.view.Call.{Call}
use Rattle.genotype_bank.specs.declared.view.Call.TheVariants.{Interned}
use Rattle.genotype_bank.specs.declared.view.Entry.{Entry}
use Rattle.instruction_set.specs.declared.letter.Letter.{Letter}
use Rattle.mutations.specs.BirthRecord.{record_of}
use Rattle.organism.specs.Newborns.{NewbornValue}
use Rattle.organism.specs.OrganismState.{OrganismState}
use Rattle.organism.specs.Lived.{OrganismLife}
use Rattle.cell_shards.specs.CellLives.{IsYoung, Part, RoundNumbers, births_from, born_in, dead_in, deaths_from, left_in, part_from, shard_lives_of, standing_in}
use Rattle.cell_shards.specs.declared.delivered.Delivered.{Delivered}
use Rattle.cell_shards.specs.declared.done.Done.{Done}
use Rattle.cell_shards.specs.declared.finished.Finished.{Finished}
use Rattle.cell_shards.specs.declared.job.Job.{Job}
use Rattle.cell_shards.specs.declared.lives.Left.{Left}

-- the cells of a job
abbrev pub part_of : Job → Part
part_of job = part_from job.first job.cells job.slices

-- a job's cells are in a world, each with few steps, and no organism too old for another update
pub record CanRun (job : Job) : Type 0 where
  pub within : job.first + length job.cells ≤ 65536
  pub each : length job.slices ≡ length job.cells
  pub few : All (λ steps. steps < 2 ^ 27) job.slices
  pub young : All IsYoung job.cells

-- the letters of a delivered newborn's genome
abbrev pub genome_in : Delivered → List Letter
genome_in d = letters d.handle.genome.value

-- the newborn that is delivered
abbrev pub newborn_in : Delivered → NewbornValue
newborn_in d = record {
  nth = d.nth;
  genome = genome_in d;
  origin = record_of d.origin;
  merit = d.merit;
  credited = d.credited;
}

-- the same with its parent's cell
abbrev pub birth_of : Delivered → ℕ × NewbornValue
birth_of d = (d.cell, newborn_in d)

-- the call that interns a newborn's genome
abbrev pub call_for : Delivered → Call
call_for d = Interned (genome_in d)

-- a handle's number is its genome's place among the genotypes of this history
pub record IsNumbered (history : List Entry) (d : Delivered) : Type 0 where
  pub place : slice_get (genotypes_of history) d.handle.number ≡ Some (genome_in d)
  pub small : d.handle.number < 2 ^ 63

-- a seat has seen more, has itself interned these newborns' genomes in order; bank and share stay
pub record HasInterned (old new : SeatValue) (births : List Delivered) : Type 0 where
  pub bank : new.bank ≡ old.bank
  pub share : new.share ≡ old.share
  pub seen : IsPrefix old.seen new.seen
  pub calls : List Entry
  pub own : own_calls_of new ≡ own_calls_of old ++ calls
  pub interned : map (λ call. call.call) calls ≡ map call_for births
  pub numbers : All (IsNumbered new.seen) births

-- a cell's newborns are delivered behind others, and the seat that interned those interned them
pub record AreDelivered (cell : ℕ) (newborns : List NewbornValue) (old new : SeatValue)
    (before after : List Delivered) : Type 0 where
  pub births : map birth_of after ≡ map birth_of before ++ map (born_in cell) newborns
  pub seat : (start : SeatValue) → HasInterned start old before → HasInterned start new after

-- behind what earlier lives left is told who this life leaves in its cell, its dead and newborns
pub record IsToldBehind (cell : ℕ) (l : OrganismLife) (slot : Option OrganismState)
    (before after : Left) : Type 0 where
  pub left : slot ≡ left_in l
  pub standings : after.standings ≡ before.standings ++ standing_in slot ∷ []
  pub dead : after.dead ≡ before.dead ++ dead_in (cell, l)
  pub births : AreDelivered cell l.newborns before.seat after.seat before.births after.births

-- a job's cells have lived, the dead left, the others are counted, newborns delivered and interned
pub record IsFinished (round : RoundNumbers) (job : Job) (finished : Finished) : Type 0 where
  pub first : finished.first ≡ job.first
  pub cells : finished.cells ≡ map left_in (shard_lives_of round (part_of job))
  pub standings : finished.standings ≡ map standing_in finished.cells
  pub births : map birth_of finished.births
      ≡ births_from job.first (shard_lives_of round (part_of job))
  pub dead : finished.dead ≡ deaths_from job.first (shard_lives_of round (part_of job))
  pub seat : HasInterned job.seat finished.seat finished.births

-- the job of this number has run
abbrev pub HasRun : RoundNumbers → List Job → Done → Type 0
HasRun round jobs done =
    (job : Job) × (slice_get jobs done.number ≡ Some job) × IsFinished round job done.finished

-- all jobs are finished, in their order
pub record AreFinished (round : RoundNumbers) (jobs : List Job) (all : List Finished) : Type 0 where
  pub count : length all ≡ length jobs
  pub each : (place : ℕ) (job : Job) (end : Finished) → place < length jobs
      → IsFinished round (slice_index_or jobs place job) (slice_index_or all place end)
