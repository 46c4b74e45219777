-- Events that were read keep to the configuration's bounds.
use Rattle.std.proofs.Common.{◌≡◌, ℕ, ◌+◌, ◌<◌, ◌≤◌, Bool, true, false, ◌&&◌, nat_le, List, [], ◌∷◌, length, codes, get_or, Option, Some, None, option_map, option_and_then, Result, Ok, Err, pos, negsuc, ℤ, refl, arith, cond, add-one, le-leb, leb-true, subst, zero, suc}
use Rattle.world_config.proofs.Prelude.{AllPass, IsNonDecreasingBy, bytes_eq, and_parts, Data, string, integer, table, Items, no_items, item, Members, get_member, as_str, Letter, spelled_by_letters, RateName, Frame, AreEvents, EventValue, WhatValue, inject, clear, rate, event_fits, what_fits, rate_named, both, clear_of, event_of, events_from, events_of, followed, genome_from, inject_of, more_events, number_from, rate_of, sized, what_of, item_count}
use Rattle.std.proofs.lemmas.Option.{cond_some}
use Rattle.std.proofs.lemmas.List.Elements.{All-cons, All-nil}
use Rattle.genome.specs.declared.stop.GenomeStop.{GenomeStop}
use Rattle.genome.proofs.ListLemmas.{some_map, some_then}

-- what is there under a condition is there
only_if : {A : Type 0} (test : Bool) (o : Option A) (y : A) → cond test o None ≡ Some y → o ≡ Some y
only_if true o y h = h
only_if false o y h = absurd (cc)

-- what two values made, with both
both-some : {A B C : Type 0} (make : A → B → C) (a : Option A) (b : Option B) (c : C)
    → both make a b ≡ Some c → (x : A) × (y : B) × (a ≡ Some x) × (b ≡ Some y) × (make x y ≡ c)
both-some make (Some x) (Some y) c h = (x, y, refl, refl, cc)
both-some make (Some x) None c h = absurd (cc)
both-some make None b c h = absurd (cc)

-- an integer that was read is within its bounds
within_integer : (least greatest : ℕ) (z : ℤ) (n : ℕ)
    → number_from least greatest (Some (integer z)) ≡ Some n
    → (nat_le least n && nat_le n greatest) ≡ true
within_integer least greatest (pos m) n h =
    let (passed, same) = cond_some (nat_le least m && nat_le m greatest) m n h in rw (← same) passed
within_integer least greatest (negsuc m) n h = absurd (cc)

-- a number that was read is within its bounds
within : (least greatest : ℕ) (o : Option Data) (n : ℕ) → number_from least greatest o ≡ Some n
    → (nat_le least n && nat_le n greatest) ≡ true
within least greatest None n h = absurd (cc)
within least greatest (Some (integer z)) n h = within_integer least greatest z n h
within least greatest (Some _) n h = absurd (cc)

-- letters that were read are within the two lengths
sized-some : (least greatest : ℕ) (r : Result (List Letter) GenomeStop) (ls : List Letter)
    → sized least greatest r ≡ Some ls → (nat_le least (length ls) && nat_le (length ls) greatest)
    ≡ true
sized-some least greatest (Ok ks) ls h =
    let (passed, same) = cond_some (nat_le least (length ks) && nat_le (length ks) greatest) ks ls h
    in rw (← same) passed
sized-some least greatest (Err stop) ls h = absurd (cc)

-- a genome that was read is within the two lengths
genome_within : (least greatest : ℕ) (o : Option Data) (ls : List Letter)
    → genome_from least greatest o ≡ Some ls
    → (nat_le least (length ls) && nat_le (length ls) greatest) ≡ true
genome_within least greatest None n h = absurd (cc)
genome_within least greatest (Some (string s)) n h =
    sized-some least greatest (spelled_by_letters s) n h
genome_within least greatest (Some _) n h = absurd (cc)

-- an injection that was read fits the frame
inject_of-fits : (frame : Frame) (ms : Members) (what : WhatValue) → inject_of frame ms ≡ Some what
    → what_fits frame what ≡ true
inject_of-fits frame ms what h =
    let number : Option ℕ = number_from 0 frame.last_cell (get_member (codes "cell") ms) in
    let genome : Option (List Letter) =
    genome_from frame.least_length frame.greatest_length (get_member (codes "letters") ms) in
    let (cell, ls, of_cell, of_letters, made) =
    both-some inject number genome what
    (only_if _ (both inject number genome) what h) in
    let low : (nat_le 0 cell && nat_le cell frame.last_cell) ≡ true =
    within 0 frame.last_cell (get_member (codes "cell") ms) cell of_cell in
    let size : (nat_le frame.least_length (length ls) && nat_le (length ls) frame.greatest_length)
    ≡ true = genome_within frame.least_length frame.greatest_length
    (get_member (codes "letters") ms) ls of_letters in
    rw (← made, (and_parts (nat_le 0 cell) (nat_le cell frame.last_cell) low).1, size) refl

-- a clearing that was read fits the frame
clear_of-fits : (frame : Frame) (ms : Members) (what : WhatValue) → clear_of frame ms ≡ Some what
    → what_fits frame what ≡ true
clear_of-fits frame ms what h =
    let number : Option ℕ = number_from 0 frame.last_cell (get_member (codes "last") ms) in
    let cleared : ℕ → Option WhatValue =
    λ last. option_map (λ first. clear first last)
    (number_from 0 last (get_member (codes "first") ms)) in
    let (last, of_last, rest) =
    some_then cleared number what
    (only_if _ (option_and_then cleared number) what h) in
    let (first, of_first, made) =
    some_map (λ (f : ℕ). clear f last) (number_from 0 last (get_member (codes "first") ms)) what
    rest in
    let low : (nat_le 0 first && nat_le first last) ≡ true =
    within 0 last (get_member (codes "first") ms) first of_first in
    let high : (nat_le 0 last && nat_le last frame.last_cell) ≡ true =
    within 0 frame.last_cell (get_member (codes "last") ms) last of_last in
    rw (
      ← made,
      (and_parts (nat_le 0 first) (nat_le first last) low).1,
      (and_parts (nat_le 0 last) (nat_le last frame.last_cell) high).1,
    ) refl

-- a rate that was read is one
rate_of-fits : (frame : Frame) (ms : Members) (what : WhatValue) → rate_of ms ≡ Some what
    → what_fits frame what ≡ true
rate_of-fits frame ms what h =
    let called : Option RateName =
    option_and_then rate_named (option_and_then as_str (get_member (codes "name") ms)) in
    let number : Option ℕ = number_from 0 1000000 (get_member (codes "ppm") ms) in
    let (name, ppm, of_name, of_ppm, made) =
    both-some rate called number what
    (only_if _ (both rate called number) what h) in
    let low : (nat_le 0 ppm && nat_le ppm 1000000) ≡ true =
    within 0 1000000 (get_member (codes "ppm") ms) ppm of_ppm in
    rw (← made, (and_parts (nat_le 0 ppm) (nat_le ppm 1000000) low).1) refl

-- what a table of this kind does fits
choose : (frame : Frame) (what : WhatValue) (a b c : Bool) (x y z : Option WhatValue)
    → (x ≡ Some what → what_fits frame what ≡ true) → (y ≡ Some what → what_fits frame what ≡ true)
    → (z ≡ Some what → what_fits frame what ≡ true)
    → cond a x (cond b y (cond c z None)) ≡ Some what → what_fits frame what ≡ true
choose frame what true b c x y z f g k h = f h
choose frame what false true c x y z f g k h = g h
choose frame what false false true x y z f g k h = k h
choose frame what false false false x y z f g k h = absurd (cc)

-- what was read of an event of any kind fits the frame
what_of-fits : (frame : Frame) (ms : Members) (kind : List ℕ) (what : WhatValue)
    → what_of frame ms kind ≡ Some what → what_fits frame what ≡ true
what_of-fits frame ms kind what h =
    choose frame what (bytes_eq kind (codes "inject")) (bytes_eq kind (codes "clear"))
    (bytes_eq kind (codes "rate")) (inject_of frame ms) (clear_of frame ms) (rate_of ms)
    (inject_of-fits frame ms what) (clear_of-fits frame ms what) (rate_of-fits frame ms what) h

-- an event that was read is in the updates, not below the least, and what it does fits
pub record Fits (frame : Frame) (least : ℕ) (event : EventValue) : Type 0 where
  pub least_update : least ≤ event.update
  pub update : event.update ≤ frame.updates
  pub what : what_fits frame event.what ≡ true

-- a table that was read as an event fits the frame and the least update
table_fits : (frame : Frame) (least : ℕ) (ms : Members) (event : EventValue)
    → event_of frame least (table ms) ≡ Some event → Fits frame least event
table_fits frame least ms event h =
    let make : ℕ → WhatValue → EventValue = λ u w. record { update = u; what = w } in
    let number : Option ℕ = number_from least frame.updates (get_member (codes "update") ms) in
    let named : Option (List ℕ) = option_and_then as_str (get_member (codes "kind") ms) in
    let (update, what, of_update, of_what, made) =
    both-some make number (option_and_then (what_of frame ms) named) event h in
    let (kind, of_kind, does) = some_then (what_of frame ms) named what of_what in
    let (low, high) = and_parts (nat_le least update) (nat_le update frame.updates)
    (within least frame.updates (get_member (codes "update") ms) update of_update) in
    rw (← made) (record {
      least_update = leb-true least update low;
      update = leb-true update frame.updates high;
      what = what_of-fits frame ms kind what does;
    })

-- a member that was read as an event fits the frame and the least update
pub event_of-fits : (frame : Frame) (least : ℕ) (d : Data) (event : EventValue)
    → event_of frame least d ≡ Some event → Fits frame least event
event_of-fits frame least (table ms) event h = table_fits frame least ms event h
event_of-fits frame least _ event h = absurd (cc)

-- events that begin with this one, with those after it
more_events-ok : (event : EventValue) (r : Result (List EventValue) ℕ) (happening : List EventValue)
    → more_events event r ≡ Ok happening → (rest : List EventValue) × (r ≡ Ok rest)
    × (event ∷ rest ≡ happening)
more_events-ok event (Ok rest) happening h = (rest, refl, cc)
more_events-ok event (Err nth) happening h = absurd (cc)

-- events that begin with a member, with its event and those after it
followed-ok : (nth : ℕ) (o : Option EventValue) (others : ℕ → Result (List EventValue) ℕ)
    (happening : List EventValue) → followed nth o others ≡ Ok happening
    → (event : EventValue) × (rest : List EventValue) × (o ≡ Some event)
    × (others event.update ≡ Ok rest) × (event ∷ rest ≡ happening)
followed-ok nth (Some event) others happening h =
    let (rest, same, made) =
    more_events-ok event (others event.update) happening h in (event, rest, refl, same, made)
followed-ok nth None others happening h = absurd (cc)

-- no update is below the one before it, and the first is not below the least
abbrev RisesFrom : ℕ → List EventValue → Type 0
RisesFrom least [] = Unit {0}
RisesFrom least (event ∷ events) = (least ≤ event.update) × RisesFrom event.update events

-- what the events of some members keep
pub record Kept (frame : Frame) (least count : ℕ) (happening : List EventValue) : Type 0 where
  pub fit : AllPass (event_fits frame) happening
  pub rises : RisesFrom least happening
  pub number : length happening ≡ count

-- what fits from an update on, fits
event_fits-from : (frame : Frame) (least : ℕ) (event : EventValue) → 1 ≤ least
    → Fits frame least event → event_fits frame event ≡ true
event_fits-from frame least event from fits =
    let above : 1 ≤ event.update = omega (arith, fits.least_update) in
    rw (le-leb 1 event.update above, le-leb event.update frame.updates fits.update, fits.what) refl

-- one more event before those that are kept
kept_more : (frame : Frame) (least count : ℕ) (event : EventValue) (rest : List EventValue)
    → 1 ≤ least → Fits frame least event → Kept frame event.update count rest
    → Kept frame least (count + 1) (event ∷ rest)
kept_more frame least count event rest from fits kept = record {
  fit = All-cons (λ e. event_fits frame e ≡ true) event rest
      (event_fits-from frame least event from fits) kept.fit;
  rises = (fits.least_update, kept.rises);
  number = rw (add-one, kept.number) refl;
}

-- the events of some members fit, rise, and are as many as the members
events_from-kept : (frame : Frame) (items : Items) (nth least : ℕ) (happening : List EventValue)
    → 1 ≤ least → events_from frame items nth least ≡ Ok happening
    → Kept frame least (item_count items) happening
events_from-kept frame no_items nth least happening from h =
    let empty : [] ≡ happening = cc in
    let P : List EventValue → Type 0 = λ es. Kept frame least 0 es in
    subst P empty (record {
      fit = All-nil (λ e. event_fits frame e ≡ true);
      rises = tt;
      number = refl;
    })
events_from-kept frame (item d ds) nth least happening from h =
    let (event, rest, of_member, of_rest, made) =
    followed-ok nth (event_of frame least d) (events_from frame ds (nth + 1)) happening h in
    let fits : Fits frame least event = event_of-fits frame least d event of_member in
    let above : 1 ≤ event.update = omega (arith, fits.least_update) in
    let P : List EventValue → Type 0 = λ es. Kept frame least (item_count ds + 1) es in
    subst P made (kept_more frame least (item_count ds) event rest from fits
    (events_from-kept frame ds (nth + 1) event.update rest above of_rest))

-- no update of those that rise is below the least
above_least : (least : ℕ) (events : List EventValue) → RisesFrom least events
    → (j : ℕ) (d : EventValue) → j < length events → least ≤ (get_or events j d).update
above_least least [] rises j d h = absurd (omega (arith, h))
above_least least (event ∷ events) rises zero d h = rises.0
above_least least (event ∷ events) rises (suc j) d h =
    let next = above_least event.update events rises.1 j d (omega (arith, h)) in
    omega (arith, rises.0, next)

-- updates that rise never fall
non_decreasing : (least : ℕ) (events : List EventValue) → RisesFrom least events
    → IsNonDecreasingBy (λ event. event.update) events
non_decreasing least [] rises i j d le h = absurd (omega (arith, h))
non_decreasing least (event ∷ events) rises zero zero d le h = omega arith
non_decreasing least (event ∷ events) rises zero (suc j) d le h =
    above_least event.update events rises.1 j d (omega (arith, h))
non_decreasing least (event ∷ events) rises (suc i) zero d le h = absurd (omega (arith, le))
non_decreasing least (event ∷ events) rises (suc i) (suc j) d le h =
    non_decreasing event.update events rises.1 i j d (omega (arith, le)) (omega (arith, h))

-- events that were read can stand in a configuration
pub AreEvents-read : (frame : Frame) (items : Items) (happening : List EventValue)
    → item_count items ≤ 1000 → events_of frame items ≡ Ok happening → AreEvents frame happening
AreEvents-read frame items happening few h =
    let kept : Kept frame 1 (item_count items) happening =
    events_from-kept frame items 1 1 happening (omega arith) h in
    record {
      number = rw kept.number few;
      fit = kept.fit;
      rising = non_decreasing 1 happening kept.rises;
    }
