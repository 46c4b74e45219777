-- A configuration that is printed is read back.
use Rattle.std.proofs.Common.{◌≡◌, ℕ, ◌+◌, ◌-◌, ◌<◌, ◌≤◌, true, false, ◌&&◌, nat_le, nat_eq, List, [], ◌∷◌, length, map, drop, get_or, Option, Some, None, Ok, pos, refl, ap, arith, le-leb, lit≤, zero, suc, le-ltb, leb-true, ne_eqb, ◌≢◌, add-one, codes, option_and_then}
use Rattle.std.specs.Prelude.{filter_map, is_none}
use Rattle.world_config.proofs.Prelude.{AllPass, position_from, pointwise, IsNonDecreasingBy, and_parts, as_str, get_member, string, integer, table, depth, items_depth, Letter, byte_of, letter_of_byte, genome_of, before_line_end, letters_text_of, spelled_by_letters, RateName, Frame, AreEvents, EventValue, WhatValue, inject, clear, rate, event_fits, what_fits, name_of_rate, rate_named, both, event_of, events_from, events_of, genome_from, more_events, number_from, what_of, item_count, event_members, items_for}
use Rattle.instruction_set.proofs.LetterLemmas.{found_again}
use Rattle.mutations.specs.declared.rate_name.RateName.TheVariants.{Copy}

-- each byte of a text by letters is a letter's
no_bad_byte : (ls : List Letter) (i : ℕ)
    → position_from (λ byte. is_none (letter_of_byte byte)) i (map byte_of ls) ≡ None
no_bad_byte [] i = refl
no_bad_byte (l ∷ ls) i = rw ((found_again l).by_byte, no_bad_byte ls (i + 1)) refl

-- the letters of a text by letters
all_letters : (ls : List Letter) → filter_map letter_of_byte (map byte_of ls) ≡ ls
all_letters [] = refl
all_letters (l ∷ ls) = rw ((found_again l).by_byte, all_letters ls) refl

-- the byte of a letter is no line end
not_line_end : (l : Letter) → nat_eq 10 (byte_of l) ≡ false
not_line_end l = let far : 10 ≢ byte_of l = omega arith in ne_eqb 10 (byte_of l) far

-- no part of a text by letters begins with a line end
no_line_end : (ls : List Letter) (k : ℕ)
    → pointwise nat_eq (10 ∷ []) (drop k (map byte_of ls)) ≡ false
no_line_end [] zero = refl
no_line_end [] (suc k) = refl
no_line_end (l ∷ ls) zero = rw (not_line_end l) refl
no_line_end (l ∷ ls) (suc k) = no_line_end ls k

-- a text by letters has no line end
same_before_line_end : (ls : List Letter) → before_line_end (map byte_of ls) ≡ map byte_of ls
same_before_line_end ls = rw (no_line_end ls (length (map byte_of ls) - 1)) refl

-- letters of a genome's length are a genome
genome_of-fits : (ls : List Letter) → 8 ≤ length ls → length ls ≤ 8192 → genome_of ls ≡ Ok ls
genome_of-fits ls low high = rw (le-ltb (length ls) 8 low, le-ltb 8192 (length ls) high) refl

-- letters that are printed are read back
pub spelled_by_letters-text : (ls : List Letter) → 8 ≤ length ls → length ls ≤ 8192
    → spelled_by_letters (letters_text_of ls) ≡ Ok ls
spelled_by_letters-text ls low high =
    rw (same_before_line_end ls, no_bad_byte ls 0, all_letters ls) (genome_of-fits ls low high)

-- the rate of a rate's name
rate_named-key : (name : RateName) → rate_named (name_of_rate name) ≡ Some name
unfolding rate_named
rate_named-key Copy = refl
rate_named-key _ = refl

-- a number within bounds is read back
number_from-pos : (least greatest n : ℕ) → least ≤ n → n ≤ greatest
    → number_from least greatest (Some (integer (pos n))) ≡ Some n
number_from-pos least greatest n low high = rw (le-leb least n low, le-leb n greatest high) refl

-- two values that are there make one
both-some : {A B C : Type 0} (make : A → B → C) {a : Option A} {b : Option B} (x : A) (y : B)
    → a ≡ Some x → b ≡ Some y → both make a b ≡ Some (make x y)
both-some make x y h k = rw (h, k) refl

-- the lengths of a frame are those of genomes
pub record IsFrame (frame : Frame) : Type 0 where
  pub least : 8 ≤ frame.least_length
  pub greatest : frame.greatest_length ≤ 8192

module _ (frame : Frame) (is : IsFrame frame) where
  -- a genome is read back
  genome_from-text : (ls : List Letter)
      → (nat_le frame.least_length (length ls) && nat_le (length ls) frame.greatest_length) ≡ true
      → genome_from frame.least_length frame.greatest_length (Some (string (letters_text_of ls)))
      ≡ Some ls
  genome_from-text ls h =
      let (low, high) = and_parts (nat_le frame.least_length (length ls))
      (nat_le (length ls) frame.greatest_length) h in
      let above : frame.least_length ≤ length ls = leb-true frame.least_length (length ls) low in
      let below : length ls ≤ frame.greatest_length =
      leb-true (length ls) frame.greatest_length high in
      rw (
        spelled_by_letters-text ls (omega (arith, is.least)) (omega (arith, is.greatest)),
        low,
        high,
      ) refl

  -- what an event does is read back
  what_of-members : (update : ℕ) (what : WhatValue) → what_fits frame what ≡ true
      → option_and_then (what_of frame (event_members update what))
      (option_and_then as_str (get_member (codes "kind") (event_members update what))) ≡ Some what
  what_of-members update (inject cell ls) h =
      let (low, size) = and_parts (nat_le cell frame.last_cell)
      (nat_le frame.least_length (length ls) && nat_le (length ls) frame.greatest_length) h in
      both-some inject cell ls
      (number_from-pos 0 frame.last_cell cell (omega arith) (leb-true cell frame.last_cell low))
      (genome_from-text ls size)
  what_of-members update (clear first last) h =
      let (low, high) = and_parts (nat_le first last) (nat_le last frame.last_cell) h in
      rw (
        number_from-pos 0 frame.last_cell last (omega arith) (leb-true last frame.last_cell high),
        number_from-pos 0 last first (omega arith) (leb-true first last low),
      ) refl
  what_of-members update (rate name ppm) h =
      both-some rate name ppm (rate_named-key name)
      (number_from-pos 0 1000000 ppm (omega arith) (leb-true ppm 1000000 h))

  -- the update of an event is read back
  member_update : (least update : ℕ) (what : WhatValue) → least ≤ update → update ≤ frame.updates
      → number_from least frame.updates (get_member (codes "update") (event_members update what))
      ≡ Some update
  member_update least update (inject _ _) = number_from-pos least frame.updates update
  member_update least update (clear _ _) = number_from-pos least frame.updates update
  member_update least update (rate _ _) = number_from-pos least frame.updates update

  -- an event is read back
  event_of-members : (least : ℕ) (event : EventValue) → least ≤ event.update
      → event_fits frame event ≡ true
      → event_of frame least (table (event_members event.update event.what)) ≡ Some event
  event_of-members least event low h =
      let (in_updates, fits) =
      and_parts (nat_le 1 event.update && nat_le event.update frame.updates)
      (what_fits frame event.what) h in
      let high : event.update ≤ frame.updates =
      leb-true event.update frame.updates
      (and_parts (nat_le 1 event.update) (nat_le event.update frame.updates) in_updates).1 in
      both-some (λ (u : ℕ) (w : WhatValue). record { update = u; what = w }) event.update event.what
      (member_update least event.update event.what low high)
      (what_of-members event.update event.what fits)

  -- events from a place and an update on are read back
  events_from-items : (events : List EventValue) (nth least : ℕ)
      → ((j : ℕ) (d : EventValue) → j < length events → least ≤ (get_or events j d).update)
      → IsNonDecreasingBy (λ event. event.update) events → AllPass (event_fits frame) events
      → events_from frame (items_for events) nth least ≡ Ok events
  events_from-items [] nth least above rising fit = refl
  events_from-items (event ∷ events) nth least above rising fit =
      let some : 0 < length (event ∷ events) = omega arith in
      rw (event_of-members least event (above 0 event some) (fit 0 event some))
      (ap (more_events event) (events_from-items events (nth + 1) event.update
      (λ j d h. rising 0 (suc j) d (omega arith) (omega (arith, h)))
      (λ i j d le h. rising (suc i) (suc j) d (omega (arith, le)) (omega (arith, h)))
      (λ j d h. fit (suc j) d (omega (arith, h)))))

  -- events that are printed are read back
  pub events_of-items : (events : List EventValue) → AreEvents frame events
      → events_of frame (items_for events) ≡ Ok events
  events_of-items events are =
      events_from-items events 1 1
      (λ j d h. leb-true 1 (get_or events j d).update
      (and_parts _ _ (and_parts _ _ (are.fit j d h)).0).0)
      are.rising are.fit

-- the tables are as many as the events
pub item_count-items : (events : List EventValue) → item_count (items_for events) ≡ length events
item_count-items [] = refl
item_count-items (event ∷ events) = rw (item_count-items events, add-one) refl

-- the table of an event holds no table
event_depth : (update : ℕ) (what : WhatValue) → depth (table (event_members update what)) ≡ 1
event_depth update (inject _ _) = refl
event_depth update (clear _ _) = refl
event_depth update (rate _ _) = refl

-- the tables of events hold no table
pub items_depth-events : (events : List EventValue) → items_depth (items_for events) ≤ 1
items_depth-events [] = lit≤ tt
items_depth-events (event ∷ events) =
    let others : items_depth (items_for events) ≤ 1 = items_depth-events events in
    rw (event_depth event.update event.what) (omega (arith, others))
