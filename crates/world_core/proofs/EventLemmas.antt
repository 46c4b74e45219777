-- The events of an update, one after another.
use Rattle.std.proofs.Common.{◌≡◌, refl, sym, ◌∙◌, ap, ℕ, ◌+◌, ◌-◌, ◌*◌, ◌<◌, ◌≤◌, true, false, ◌&&◌, nat_le, List, ◌∷◌, ◌++◌, length, drop, get_or, fold, filter, append_assoc, arith}
use Rattle.std.specs.Prelude.{◌==◌}
use Rattle.world_core.proofs.Prelude.{scan, flat_map, enumerate_from, leb-true, and_parts, at_drop_more, get_or-map, length-map, flat_map-append, All-get_or, lines_text, line_text, Event, frame_of, Frame, EventValue, WhatValue, inject, clear, rate, event_value, event_values, event_fits, what_fits, what_value, values_of, ConfigValues, event_lines, lines_of_event, what_lines, Scene, events_at, after_event, after_events, after_what, CanHappen}
use Rattle.std.proofs.lemmas.Nat.{mul-le}
use Rattle.world_config.specs.declared.config.Config.{Config}

-- the events of an update among these, numbered from n
abbrev pub coming : ℕ → ℕ → List Event → List (ℕ × EventValue)
coming update n events =
    filter (λ event. event.1.update == update) (enumerate_from n (event_values events))

-- the lines of these events, from this scene on
abbrev pub coming_text : ConfigValues → Scene → List (ℕ × EventValue) → List ℕ
coming_text config scene events =
    lines_text (flat_map (λ lines. lines) (scan (after_event config) lines_of_event scene events))

-- what comes after the first i events leads from this scene and text to those after all
pub record IsOnTheWay (config : Config) (update i : ℕ) (first scene : Scene)
    (start text : List ℕ) : Type 0 where
  pub leads : fold (after_event (values_of config)) scene
      (coming update (i + 1) (drop i config.event)) ≡ after_events (values_of config) first
  pub tells : text ++ coming_text (values_of config) scene
      (coming update (i + 1) (drop i config.event)) ≡ start
      ++ lines_text (event_lines (values_of config) first)

-- before the first event
pub way-start : (config : Config) (first : Scene) (start : List ℕ)
    → IsOnTheWay config first.update 0 first first start start
unfolding after_events events_at
way-start config first start = record { leads = refl; tells = refl }

-- an event of another update
pub way-past : (config : Config) (update i : ℕ) (e : Event) (first scene : Scene)
    (start text : List ℕ) → i < length config.event → e ≡ get_or config.event i e
    → (e.update == update) ≡ false → IsOnTheWay config update i first scene start text
    → IsOnTheWay config update (i + 1) first scene start text
way-past config update i e first scene start text within here test way =
    let rest : List (ℕ × EventValue) = coming update (i + 1 + 1) (drop (i + 1) config.event) in
    let next : coming update (i + 1) (drop i config.event) ≡ rest =
    at_drop_more (coming update (i + 1)) config.event i e within ∙ rw (← here, test) in
    record { leads = rw next at way.leads; tells = rw next at way.tells }

-- an event of this update happens and is told
pub way-on : (config : Config) (update i : ℕ) (e : Event) (first scene after : Scene)
    (start text told : List ℕ) → i < length config.event → e ≡ get_or config.event i e
    → (e.update == update) ≡ true
    → after ≡ after_what (values_of config) scene (i + 1) (what_value e.what)
    → told ≡ text ++ lines_text (what_lines scene (what_value e.what))
    → IsOnTheWay config update i first scene start text
    → IsOnTheWay config update (i + 1) first after start told
unfolding after_event
way-on config update i e first scene after start text told within here test happened lines way =
    let C : ConfigValues = values_of config in
    let x : ℕ × EventValue = (i + 1, event_value e) in
    let rest : List (ℕ × EventValue) = coming update (i + 1 + 1) (drop (i + 1) config.event) in
    let next : coming update (i + 1) (drop i config.event) ≡ x ∷ rest =
    at_drop_more (coming update (i + 1)) config.event i e within ∙ rw (← here, test) in
    let told_here : List ℕ = lines_text (what_lines scene (what_value e.what)) in
    let now : Scene = after_what C scene (i + 1) (what_value e.what) in
    record {
      leads = rw happened (rw next at way.leads);
      tells = ap (λ t. t ++ coming_text C after rest) lines
          ∙ ap (λ s. (text ++ told_here) ++ coming_text C s rest) happened
          ∙ append_assoc text told_here (coming_text C now rest)
          ∙ ap (λ t. text ++ t) (sym
          (flat_map-append line_text (what_lines scene (what_value e.what))
          (flat_map (λ lines. lines) (scan (after_event C) lines_of_event now rest))))
          ∙ sym (ap (λ events. text ++ coming_text C scene events) next)
          ∙ way.tells;
    }

-- what fits a frame can happen in its world
pub can_happen : (cells updates least greatest : ℕ) (what : WhatValue) → 0 < cells
    → what_fits (record {
      last_cell = cells - 1;
      updates = updates;
      least_length = least;
      greatest_length = greatest;
    }) what ≡ true → CanHappen cells greatest what
can_happen cells updates least greatest (inject cell letters) some fits =
    let parts = and_parts (nat_le cell (cells - 1))
    (nat_le least (length letters) && nat_le (length letters) greatest) fits in
    let within = leb-true cell (cells - 1) parts.0 in
    let lengths =
    and_parts (nat_le least (length letters)) (nat_le (length letters) greatest) parts.1 in
    (omega arith, leb-true (length letters) greatest lengths.1)
can_happen cells updates least greatest (clear first last) some fits =
    let parts = and_parts (nat_le first last) (nat_le last (cells - 1)) fits in
    let within = leb-true last (cells - 1) parts.1 in
    omega arith
can_happen cells updates least greatest (rate name ppm) some fits = tt

-- an event of a configuration can happen in its world
pub event-can_happen : (config : Config) (i : ℕ) (e : Event) → i < length config.event
    → e ≡ get_or config.event i e
    → CanHappen (config.width * config.height) config.greatest_length (what_value e.what)
event-can_happen config i e within here =
    let frame : Frame = frame_of config.width config.height config.updates config.least_length
    config.greatest_length in
    let long : i < length (event_values config.event) = rw length-map within in
    let passes = All-get_or (λ x. event_fits frame x ≡ true) (event_values config.event) i
    (event_value e) long config.event_bounds.fit in
    let mapped = get_or-map event_value config.event i e (event_value e) within in
    let fits : event_fits frame (event_value e) ≡ true =
    ap (event_fits frame) (ap event_value here ∙ sym mapped) ∙ passes in
    let parts = and_parts (nat_le 1 e.update && nat_le e.update frame.updates)
    (what_fits frame (what_value e.what)) fits in
    let some : 1 * 1 ≤ config.width * config.height =
    mul-le 1 1 config.width config.height config.width_bounds.0 config.height_bounds.0 in
    can_happen (config.width * config.height) config.updates config.least_length
    config.greatest_length (what_value e.what) (omega arith) parts.1

-- there are few events
pub events-few : (config : Config) (events : List Event) → events ≡ config.event
    → length events ≤ 1000
events-few config events same =
    omega (arith, ap length same, length-map config.event event_value, config.event_bounds.number)
