-- The rates that the events of a configuration set.
use Rattle.std.proofs.Common.{◌≡◌, ◌∙◌, ℕ, ◌<◌, ◌≤◌, ◌&&◌, nat_le, nat_lt, true, List, length, get_or, map, filter, fold, sym, ap}
use Rattle.world_core.proofs.Prelude.{AllPass, leb-true, and_parts, get_or-map, length-map, All-get_or, RateNumbers, Event, event_value, event_values, event_fits, what_fits, what_value, Frame, rates_after}
use Rattle.mutations.specs.declared.rate_name.RateName.{RateName}
use Rattle.world_config.specs.declared.event.What.{What}
use Rattle.world_config.specs.declared.event.What.TheVariants.{Rate}

-- the rates after the events before an update, among some events
abbrev pub rates_by : RateNumbers → ℕ → List Event → RateNumbers
rates_by first update events =
    fold rates_after first (filter (λ event. nat_lt event.update update) (map event_value events))

-- a rate in a list of events is one
pub rate-fits : (frame : Frame) (events items : List Event) (i : ℕ) (e : Event) (name : RateName)
    (ppm : ℕ) → AllPass (event_fits frame) (event_values events) → items ≡ events → i < length items
    → e ≡ get_or items i e → e.what ≡ Rate name ppm → ppm ≤ 1000000
rate-fits frame events items i e name ppm fit same within here is =
    let all : AllPass (event_fits frame) (event_values items) = rw same fit in
    let long : i < length (event_values items) = rw length-map within in
    let passes = All-get_or (λ x. event_fits frame x ≡ true) (event_values items) i
    (event_value e) long all in
    let mapped = get_or-map event_value items i e (event_value e) within in
    let fits : event_fits frame (event_value e) ≡ true =
    ap (event_fits frame) (ap event_value here ∙ sym mapped) ∙ passes in
    let parts = and_parts (nat_le 1 e.update && nat_le e.update frame.updates)
    (what_fits frame (what_value e.what)) fits in
    leb-true ppm 1000000 (sym (ap (λ (w : What). what_fits frame (what_value w)) is) ∙ parts.1)
