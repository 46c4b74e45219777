-- What holds of every schedule, and the order in which seats intern the newborns of an update
-- (docs/WORLD.md, "Any order of events").
use Rattle.std.specs.Prelude.{◌≡◌, ◌==◌, ℕ, false, if◌then◌else◌, List, [], ◌++◌, IsNone, filter, length, map, ◌+◌, ◌<◌, ◌≤◌, Bool, true, Some, count_by, slice_get, take}
use Rattle.std.specs.List.{flat_map, range_with_len}
use Rattle.genotype_bank.specs.declared.view.Entry.{Entry}
use Rattle.instruction_set.specs.declared.letter.Letter.{Letter}
use Rattle.world_config.specs.Values.{ConfigValues}
use Rattle.world_rules.specs.World.{World}
use Rattle.event_orders.specs.declared.schedule.ScheduleEvent.{ScheduleEvent}
use Rattle.event_orders.specs.State.{State, genome_entry, life_in, newborn_genomes}
use Rattle.event_orders.specs.Schedule.{MayGather, state_after, IsSchedule}
use Rattle.world_rules.specs.Picture.{PictureValue, picture_of}
use Rattle.event_orders.specs.declared.schedule.ScheduleEvent.TheVariants.{Intern, Gather, Look}

-- no cell has lived since the update began
pub record StartsUpdate (s : State) : Type 0 where
  pub idle : (cell : ℕ) → IsNone (s.results cell)
  pub none : (cell nth : ℕ) → s.interned cell nth ≡ false

-- the genomes of a cell's newborns, if the cell is the seat's
abbrev pub newborns_for : ConfigValues → World → (ℕ → ℕ) → ℕ → ℕ → List (List Letter)
newborns_for config w seat_of seat cell =
    if seat_of cell == seat then newborn_genomes (life_in config w cell) else []

-- each seat interns its own cells' newborns, by cell and birth; the order of seats is free
abbrev pub IsInterleaving : ConfigValues → World → (ℕ → ℕ) → List Entry → Type 0
IsInterleaving config w seat_of calls =
    (seat : ℕ)
    → filter (λ call. call.seat == seat) calls
    ≡ map (genome_entry seat)
    (flat_map (newborns_for config w seat_of seat) (range_with_len 0 (length w.cells)))

-- a schedule goes on by events whose calls of the bank are these, until the update may end
pub record GoesOnWith (config : ConfigValues) (events : List ScheduleEvent) (calls : List Entry)
    (more : List ScheduleEvent) : Type 0 where
  pub lawful : IsSchedule config (events ++ more)
  pub history : (state_after config (events ++ more)).history
      ≡ (state_after config events).history ++ calls
  pub ends : MayGather (state_after config (events ++ more))

-- whether an update ends
abbrev pub is_gather : ScheduleEvent → Bool
is_gather (Gather seat) = true
is_gather _ = false

-- after each end of an update this holds of the number of updates so far and of the state then
abbrev pub AfterEachGather : ConfigValues → List ScheduleEvent → (ℕ → State → Type 0) → Type 0
AfterEachGather config events Holds =
    (place seat : ℕ) → slice_get events place ≡ Some (Gather seat)
    → let front = take (place + 1) events in
    Holds (count_by is_gather front) (state_after config front)

-- each picture that was published is that of its update
abbrev pub ShowsEachUpdate : ConfigValues → List PictureValue → Type 0
ShowsEachUpdate config pictures =
    (update : ℕ) (picture : PictureValue)
    → slice_get pictures update ≡ Some picture → picture ≡ picture_of config update

-- a later look of an observer is at no lower number
abbrev pub LooksNeverFall : List ScheduleEvent → Type 0
LooksNeverFall events =
    (place later observer number other : ℕ)
    → place < later
    → slice_get events place ≡ Some (Look observer number)
    → slice_get events later ≡ Some (Look observer other)
    → number ≤ other

-- so many updates; each cell's seat interns, each picture is published, observer 0 saw the last one
pub record IsScheduleFor (config : ConfigValues) (updates : ℕ) (seat_of : ℕ → ℕ)
    (events : List ScheduleEvent) : Type 0 where
  pub lawful : IsSchedule config events
  pub ends : count_by is_gather events ≡ updates
  pub published : length (state_after config events).pictures ≡ updates + 1
  pub seen : (state_after config events).seen 0 ≡ updates
  pub seats : (place seat cell nth : ℕ)
      → slice_get events place ≡ Some (Intern seat cell nth) → seat ≡ seat_of cell
