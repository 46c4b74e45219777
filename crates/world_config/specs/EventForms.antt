-- Which tables are events (docs/FORMATS.md, "The configuration"), and which arrays are lists of
-- events. For example, the table with `kind = "clear"`, `update = 5`, `first = 0` and `last = 9`,
-- in any order, is the event of update 5 that does `clear 0 9`.
use Rattle.std.specs.Prelude.{ℕ, ◌+◌, pos, Bool, true, ◌&&◌, nat_le, if◌then◌else◌, codes, List, [], ◌∷◌, length, Option, Some, None, option_map, option_and_then, Result, Ok, Err}
use Rattle.world_config.specs.Prelude.{list_any, bytes_eq, Data, string, integer, table, Items, no_items, item, Members, no_members, member, get_member, as_str, Letter, GenomeStop, spelled_by_letters, rate_named}
use Rattle.world_config.specs.KeyTable.{Frame}
use Rattle.world_config.specs.Events.{EventValue, WhatValue, inject, clear, rate}

-- each key of a table is one of these names
abbrev pub has_only : List (List ℕ) → Members → Bool
has_only names no_members = true
has_only names (member k d ms) = list_any (λ name. bytes_eq name k) names && has_only names ms

-- the value, where the table has no other key than those of every event and these names
abbrev pub if_only : {A : Type 0} → List (List ℕ) → Members → Option A → Option A
if_only names ms value = if has_only (codes "kind" ∷ codes "update" ∷ names) ms then value else None

-- the number that a value is, where it lies within bounds
abbrev pub number_from : ℕ → ℕ → Option Data → Option ℕ
number_from least greatest (Some (integer (pos n))) =
    if nat_le least n && nat_le n greatest then Some n else None
number_from least greatest _ = None

-- the letters, where their number lies within bounds
abbrev pub sized : ℕ → ℕ → Result (List Letter) GenomeStop → Option (List Letter)
sized least greatest (Ok ls) =
    if nat_le least (length ls) && nat_le (length ls) greatest then Some ls else None
sized least greatest (Err stop) = None

-- the genome that a value spells by letters, where its length lies within bounds
abbrev pub genome_from : ℕ → ℕ → Option Data → Option (List Letter)
genome_from least greatest (Some (string text)) = sized least greatest (spelled_by_letters text)
genome_from least greatest _ = None

-- what two values make, where there are both
abbrev pub both : {A B C : Type 0} → (A → B → C) → Option A → Option B → Option C
both make (Some a) (Some b) = Some (make a b)
both make _ _ = None

-- an injection into a cell of the world, of a genome whose length the configuration allows
abbrev pub inject_of : Frame → Members → Option WhatValue
inject_of frame ms = if_only (codes "cell" ∷ codes "letters" ∷ []) ms
    (both inject (number_from 0 frame.last_cell (get_member (codes "cell") ms))
    (genome_from frame.least_length frame.greatest_length (get_member (codes "letters") ms)))

-- a clearing of cells of the world from the first to the last, which is not below the first
abbrev pub clear_of : Frame → Members → Option WhatValue
clear_of frame ms = if_only (codes "first" ∷ codes "last" ∷ []) ms
    (option_and_then (λ last. option_map (λ first. clear first last)
    (number_from 0 last (get_member (codes "first") ms)))
    (number_from 0 frame.last_cell (get_member (codes "last") ms)))

-- a new value of one of the six rates, in parts per million
abbrev pub rate_of : Members → Option WhatValue
rate_of ms = if_only (codes "name" ∷ codes "ppm" ∷ []) ms
    (both rate (option_and_then rate_named (option_and_then as_str (get_member (codes "name") ms)))
    (number_from 0 1000000 (get_member (codes "ppm") ms)))

-- what an event of this kind does, where its table has the form of the kind
abbrev pub what_of : Frame → Members → List ℕ → Option WhatValue
what_of frame ms kind =
    if bytes_eq kind (codes "inject") then inject_of frame ms
    else if bytes_eq kind (codes "clear") then clear_of frame ms
    else if bytes_eq kind (codes "rate") then rate_of ms
    else None

-- the event that a member of the array is, in an update from the least to the last of the run
abbrev pub event_of : Frame → ℕ → Data → Option EventValue
event_of frame least (table ms) =
    both (λ update what. record { update = update; what = what })
    (number_from least frame.updates (get_member (codes "update") ms))
    (option_and_then (what_of frame ms) (option_and_then as_str (get_member (codes "kind") ms)))
event_of frame least _ = None

-- an event before the others, or the place of the first of the others that is no event
abbrev pub more_events : EventValue → Result (List EventValue) ℕ → Result (List EventValue) ℕ
more_events event (Ok events) = Ok (event ∷ events)
more_events event (Err nth) = Err nth

-- the event that a member is, and those that follow from its update on; its place if it is none
abbrev pub followed :
    ℕ → Option EventValue → (ℕ → Result (List EventValue) ℕ) → Result (List EventValue) ℕ
followed nth None others = Err nth
followed nth (Some event) others = more_events event (others event.update)

-- the events of members from a place and an update on, or the place of the first that is none
abbrev pub events_from : Frame → Items → ℕ → ℕ → Result (List EventValue) ℕ
events_from frame no_items nth least = Ok []
events_from frame (item d ds) nth least =
    followed nth (event_of frame least d) (events_from frame ds (nth + 1))

-- the events that an array is: updates begin at 1 or later and never fall; places count from 1
abbrev pub events_of : Frame → Items → Result (List EventValue) ℕ
events_of frame items = events_from frame items 1 1
