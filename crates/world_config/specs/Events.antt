-- Events as values, and which events a configuration may have (docs/WORLD.md, "Events"). For
-- example, an event that kills all organisms in the cells 0 to 9 at the end of update 5 has the
-- update 5 and is `clear 0 9`.
use Rattle.std.specs.Prelude.{ℕ, ◌≤◌, Bool, ◌&&◌, nat_le, List, length, map, Option, Some, None, Result, Ok, Err}
use Rattle.world_config.specs.Prelude.{AllPass, Letter, letters}
use Rattle.std.specs.List.Sorted.{IsNonDecreasingBy}
use Rattle.mutations.specs.declared.rate_name.RateName.{RateName}
use Rattle.world_config.specs.declared.event.Event.{Event}
use Rattle.world_config.specs.declared.event.What.{What}
use Rattle.world_config.specs.declared.event.What.TheVariants as code
use Rattle.world_config.specs.KeyTable.{Frame}
use Rattle.world_config.specs.declared.event_forms.Frame.{Frame as FrameCode}
use Rattle.world_config.specs.declared.stop.ConfigStop.{ConfigStop}
use Rattle.world_config.specs.declared.stop.ConfigStop.TheVariants.{BadEvent}

-- puts these letters into a cell, kills all from cell to cell, or sets a rate from the next update
pub data WhatValue : Type 0 where
  inject : ℕ → List Letter → WhatValue
  clear : ℕ → ℕ → WhatValue
  rate : RateName → ℕ → WhatValue

-- an event: the update at whose end it happens, and what it does
pub record EventValue : Type 0 where
  pub update : ℕ
  pub what : WhatValue

-- what the code's event does
abbrev pub what_value : What → WhatValue
what_value (code.Inject cell genome) = inject cell (letters genome)
what_value (code.Clear first last) = clear first last
what_value (code.Rate name ppm) = rate name ppm

-- the value of the code's event
abbrev pub event_value : Event → EventValue
event_value event = record { update = event.update; what = what_value event.what }

-- cells are in the world, a genome's length within bounds, a rate at most a million in a million
abbrev pub what_fits : Frame → WhatValue → Bool
what_fits frame (inject cell ls) =
    nat_le cell frame.last_cell
    && (nat_le frame.least_length (length ls) && nat_le (length ls) frame.greatest_length)
what_fits frame (clear first last) = nat_le first last && nat_le last frame.last_cell
what_fits frame (rate name ppm) = nat_le ppm 1000000

-- it happens in one of the updates, and what it does fits
abbrev pub event_fits : Frame → EventValue → Bool
event_fits frame event =
    (nat_le 1 event.update && nat_le event.update frame.updates) && what_fits frame event.what

-- these events can be configured: at most 1000, each of which fits, and whose updates never fall
pub record AreEvents (frame : Frame) (events : List EventValue) : Type 0 where
  pub number : length events ≤ 1000
  pub fit : AllPass (event_fits frame) events
  pub rising : IsNonDecreasingBy (λ event. event.update) events

-- the values of the code's events
abbrev pub event_values : List Event → List EventValue
event_values events = map event_value events

-- the code's four numbers as a frame
abbrev pub frame_value : FrameCode → Frame
frame_value frame = record {
  last_cell = frame.last_cell;
  updates = frame.updates;
  least_length = frame.least_length;
  greatest_length = frame.greatest_length;
}

-- the refusal of an array, by the place of its first member that is no event
abbrev pub event_refusal : Result (List EventValue) ℕ → Option ConfigStop
event_refusal (Ok events) = None
event_refusal (Err nth) = Some (BadEvent nth)
