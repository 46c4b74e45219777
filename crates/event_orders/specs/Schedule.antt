-- The events of a run in any order: lives, interned newborns, ends of updates, pictures and
-- observers (docs/WORLD.md, "Any order of events").
use Rattle.std.specs.Prelude.{◌≡◌, ◌==◌, ℕ, ◌+◌, ◌<◌, ◌≤◌, max, if◌then◌else◌, true, false, List, [], ◌∷◌, ◌++◌, None, Some, IsSome, IsNone, length, map, fold, take, Contains, slice_get, slice_index_or}
use Rattle.published_world.specs.PublicationHistory.{MayFollow}
use Rattle.world_config.specs.Values.{ConfigValues}
use Rattle.world_rules.specs.Update.{scene_of_lives, world_of}
use Rattle.world_rules.specs.Picture.{picture_of}
use Rattle.event_orders.specs.declared.schedule.ScheduleEvent.{ScheduleEvent}
use Rattle.event_orders.specs.declared.schedule.ScheduleEvent.TheVariants.{Run, Intern, Gather, Publish, Look, Hear}
use Rattle.event_orders.specs.State.{State, genome_entry, opening, life_in, newborn_genomes, result_of, results_of, injections_at}

-- an update may end once each cell has lived and each newborn is interned
pub record MayGather (s : State) : Type 0 where
  pub every_cell : (cell : ℕ) → cell < length s.world.cells → IsSome (s.results cell)
  pub every_newborn : (cell nth : ℕ)
      → cell < length s.world.cells → nth < length (newborn_genomes (result_of s cell))
      → s.interned cell nth ≡ true

-- a picture with this number was published
abbrev pub IsPublished : State → ℕ → Type 0
IsPublished s number = Contains (map (λ picture. picture.update) s.pictures) number

-- the event may happen next: a cell lives once, a newborn is interned once, no look is older
abbrev pub IsLawful : ConfigValues → State → ScheduleEvent → Type 0
IsLawful config s (Run cell) = (cell < length s.world.cells) × IsNone (s.results cell)
IsLawful config s (Intern seat cell nth) =
    IsSome (s.results cell) × (nth < length (newborn_genomes (result_of s cell)))
    × (s.interned cell nth ≡ false)
IsLawful config s (Gather seat) = MayGather s
IsLawful config s Publish =
    MayFollow (λ picture. picture.update) (λ picture. config) s.pictures
    (picture_of config s.world.update)
IsLawful config s (Look observer number) = IsPublished s number × (s.seen observer ≤ number)
IsLawful config s (Hear observer number) = IsPublished s number

-- the function with another value at one place
abbrev pub with_value_at : {X : Type 0} → (ℕ → X) → ℕ → X → ℕ → X
with_value_at values place value other = if other == place then value else values other

-- an observer has seen this number, or heard of it
abbrev pub with_seen : State → ℕ → ℕ → State
with_seen s observer number =
    record s { seen = with_value_at s.seen observer (max (s.seen observer) number) }

-- the run after the event
abbrev pub state_after_event : ConfigValues → State → ScheduleEvent → State
state_after_event config s (Run cell) =
    record s { results = with_value_at s.results cell (Some (life_in config s.world cell)) }
state_after_event config s (Intern seat cell nth) = record s {
  interned = with_value_at s.interned cell (with_value_at (s.interned cell) nth true);
  history = s.history
      ++ genome_entry seat (slice_index_or (newborn_genomes (result_of s cell)) nth []) ∷ [];
}
state_after_event config s (Gather seat) = record s {
  world = world_of (scene_of_lives config s.world (results_of s));
  results = λ cell. None;
  interned = λ cell nth. false;
  history = s.history ++ map (genome_entry seat) (injections_at config (s.world.update + 1));
}
state_after_event config s Publish =
    record s { pictures = s.pictures ++ picture_of config s.world.update ∷ [] }
state_after_event config s (Look observer number) = with_seen s observer number
state_after_event config s (Hear observer number) = with_seen s observer number

-- the run after these events
abbrev pub state_after : ConfigValues → List ScheduleEvent → State
state_after config events = fold (state_after_event config) (opening config) events

-- each event is lawful after those before it
abbrev pub IsSchedule : ConfigValues → List ScheduleEvent → Type 0
IsSchedule config events =
    (place : ℕ) (event : ScheduleEvent)
    → slice_get events place ≡ Some event
    → IsLawful config (state_after config (take place events)) event
