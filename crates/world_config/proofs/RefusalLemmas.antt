-- What refuses a table, and what it says, by the numbers that were read in groups.
use Rattle.std.proofs.Common.{◌≡◌, ℕ, List, [], ◌∷◌, ◌++◌, length, Option, Some, None, refl, ◌∙◌, ap, add-one, Result, Ok, Err}
use Rattle.world_config.proofs.Prelude.{option_or, no_items, Members, string, array, Value, items_view, Key, ConfigStop, Frame, default_ancestor, events, genome, keys, frame_of, frame_in, genome_at, item_count, items_at, items_of_value, letters_of_value, number_at, value_or, first_refusal, refusal_at, refusal_of, EventValue, event_refusal, events_of, ConfigValues, values_in_table, unless_refused, values_with, AreNumbers, number_keys, numbers_frame}
use Rattle.world_config.specs.declared.key.Key.TheVariants as code
use Rattle.world_config.specs.declared.numbers.Numbers.{Numbers}

-- the first of three refusals
option_or-assoc : (a b c : Option ConfigStop) → option_or (option_or a b) c ≡ option_or a (option_or b c)
option_or-assoc (Some stop) b c = refl
option_or-assoc None b c = refl

-- the first refusal of two lists of keys
first_refusal-append : (a b : List Key) (ms : Members)
    → first_refusal (a ++ b) ms ≡ option_or (first_refusal a ms) (first_refusal b ms)
first_refusal-append [] b ms = refl
first_refusal-append (key ∷ a) b ms =
    rw (first_refusal-append a b ms, option_or-assoc (refusal_at (frame_in ms) key ms)) refl

-- the frame of a table, whatever the frame in which its numbers are looked up
frame_in-at : (ms : Members)
    → frame_in ms
    ≡ frame_of (number_at (frame_in ms) code.Width ms) (number_at (frame_in ms) code.Height ms)
    (number_at (frame_in ms) code.Updates ms) (number_at (frame_in ms) code.LeastLength ms)
    (number_at (frame_in ms) code.GreatestLength ms)
unfolding number_at
frame_in-at ms = refl

-- the frame of a table by the numbers that were read
pub frame_in-numbers : (ms : Members) (numbers : Numbers) → AreNumbers ms numbers
    → frame_in ms ≡ numbers_frame numbers
frame_in-numbers ms numbers are =
    frame_in-at ms
    ∙ rw (
      are.place.width,
      are.place.height,
      are.place.updates,
      are.lengths.least_length,
      are.lengths.greatest_length,
    ) refl

-- the refusal of the ancestor
refusal_at-ancestor : (frame : Frame) (ms : Members)
    → refusal_at frame code.Ancestor ms
    ≡ refusal_of (genome frame.least_length frame.greatest_length) code.Ancestor
    (value_or code.Ancestor (string default_ancestor) ms)
unfolding refusal_at
refusal_at-ancestor frame ms = refl

-- the refusal of the events
refusal_at-event : (frame : Frame) (ms : Members)
    → refusal_at frame code.Event ms
    ≡ refusal_of (events 1000) code.Event (value_or code.Event (array no_items) ms)
unfolding refusal_at
refusal_at-event frame ms = refl

-- the first refusal, where no number is refused
pub first_refusal-last : (ms : Members) (numbers : Numbers) → AreNumbers ms numbers
    → first_refusal number_keys ms ≡ None
    → first_refusal keys ms
    ≡ option_or (refusal_of (genome numbers.lengths.least_length numbers.lengths.greatest_length)
    code.Ancestor (value_or code.Ancestor (string default_ancestor) ms))
    (option_or (refusal_of (events 1000) code.Event (value_or code.Event (array no_items) ms)) None)
first_refusal-last ms numbers are accepted =
    rw (
      first_refusal-append number_keys (code.Ancestor ∷ code.Event ∷ []) ms,
      accepted,
      refusal_at-ancestor (frame_in ms) ms,
      refusal_at-event (frame_in ms) ms,
    ) (ap (λ (frame : Frame). option_or
    (refusal_of (genome frame.least_length frame.greatest_length) code.Ancestor
    (value_or code.Ancestor (string default_ancestor) ms))
    (option_or (refusal_of (events 1000) code.Event (value_or code.Event (array no_items) ms)) None))
    (frame_in-numbers ms numbers are))

-- the letters of the ancestor at their key
pub genome_at-ancestor : (ms : Members)
    → genome_at code.Ancestor ms
    ≡ letters_of_value (value_or code.Ancestor (string default_ancestor) ms)
unfolding genome_at
genome_at-ancestor ms = refl

-- the members of the events at their key
pub items_at-event : (ms : Members)
    → items_at code.Event ms ≡ items_of_value (value_or code.Event (array no_items) ms)
unfolding items_at
items_at-event ms = refl

-- the members of an array are as many as its values
pub item_count_of_view : (members : List Value) → item_count (items_view members) ≡ length members
item_count_of_view [] = refl
item_count_of_view (value ∷ members) = rw (item_count_of_view members, add-one) refl

-- a refusal of events is that of the values with them
pub values_with-refused : (ms : Members) (read : Result (List EventValue) ℕ) (stop : ConfigStop)
    → event_refusal read ≡ Some stop → values_with ms read ≡ Err stop
values_with-refused ms (Ok happening) stop h = cc
values_with-refused ms (Err nth) stop h = cc

-- the ancestor's refusal
abbrev ancestor_refusal : Members → Numbers → Option ConfigStop
ancestor_refusal ms numbers =
    refusal_of (genome numbers.lengths.least_length numbers.lengths.greatest_length) code.Ancestor
    (value_or code.Ancestor (string default_ancestor) ms)

-- the refusal of the events' kind or number
abbrev members_refusal : Members → Option ConfigStop
members_refusal ms = refusal_of (events 1000) code.Event (value_or code.Event (array no_items) ms)

module _ (ms : Members) (numbers : Numbers) (are : AreNumbers ms numbers)
    (accepted : first_refusal number_keys ms ≡ None) where
  -- the ancestor is refused, and no number
  pub refused_by_ancestor : (values : Result ConfigValues ConfigStop) (stop : ConfigStop)
      → ancestor_refusal ms numbers ≡ Some stop
      → unless_refused (first_refusal keys ms) values ≡ Err stop
  refused_by_ancestor values stop h =
      rw (first_refusal-last ms numbers are accepted, h) refl

  -- the events' kind or number is refused, and nothing before
  pub refused_by_members : (values : Result ConfigValues ConfigStop) (stop : ConfigStop)
      → ancestor_refusal ms numbers ≡ None → members_refusal ms ≡ Some stop
      → unless_refused (first_refusal keys ms) values ≡ Err stop
  refused_by_members values stop good h =
      rw (first_refusal-last ms numbers are accepted, good, h) refl

  -- no key is refused
  all_accepted : ancestor_refusal ms numbers ≡ None → members_refusal ms ≡ None
      → first_refusal keys ms ≡ None
  all_accepted good few =
      rw (first_refusal-last ms numbers are accepted, good, few) refl

  -- the events of the table are those of its members, in the frame of the numbers
  events_of-members : (members : List Value)
      → value_or code.Event (array no_items) ms ≡ array (items_view members)
      → events_of (frame_in ms) (items_at code.Event ms)
      ≡ events_of (numbers_frame numbers) (items_view members)
  events_of-members members same =
      rw (frame_in-numbers ms numbers are, items_at-event ms, same) refl

  -- an event is refused, and nothing before
  pub refused_by_events : (members : List Value) (stop : ConfigStop)
      → ancestor_refusal ms numbers ≡ None → members_refusal ms ≡ None
      → value_or code.Event (array no_items) ms ≡ array (items_view members)
      → event_refusal (events_of (numbers_frame numbers) (items_view members)) ≡ Some stop
      → unless_refused (first_refusal keys ms)
      (values_with ms (events_of (frame_in ms) (items_at code.Event ms))) ≡ Err stop
  refused_by_events members stop good few same h =
      rw (all_accepted good few, events_of-members members same)
      (values_with-refused ms (events_of (numbers_frame numbers) (items_view members)) stop h)

  -- nothing is refused
  pub accepted_values : (members : List Value) (happening : List EventValue)
      → ancestor_refusal ms numbers ≡ None → members_refusal ms ≡ None
      → value_or code.Event (array no_items) ms ≡ array (items_view members)
      → events_of (numbers_frame numbers) (items_view members) ≡ Ok happening
      → unless_refused (first_refusal keys ms)
      (values_with ms (events_of (frame_in ms) (items_at code.Event ms)))
      ≡ Ok (values_in_table ms happening)
  accepted_values members happening good few same h =
      rw (all_accepted good few, events_of-members members same, h) refl
