-- The members of a table and of an array beside the values that they stand for.
use Rattle.std.proofs.Common.{◌≡◌, ℕ, ◌+◌, ◌<◌, Bool, List, [], ◌∷◌, ◌++◌, map, length, drop, get_or, Some, None, Result, Ok, Err, string_bytes, refl, sym}
use Rattle.world_config.proofs.Prelude.{list_any, list_all, bytes_eq, Value, view, items_view, members_view, Entry, items_view-drop, Frame, EventValue, event_of, events_from, events_of, followed, has_only, more_events}
use Rattle.std.specs.Borrow.{Bor}

-- a test of mapped elements is one of the list that they were mapped from
list_any-map : {X Y : Type 0} (p : Y → Bool) (f : X → Y) (xs : List X)
    → list_any (λ x. p (f x)) xs ≡ list_any p (map f xs)
list_any-map p f [] = refl
list_any-map p f (x ∷ xs) = rw (list_any-map p f xs) refl

-- each key of a table is among the names
pub has_only-members : (names : List (Bor (List ℕ))) (es : List Entry)
    → list_all (λ key. list_any (λ name. bytes_eq name.now (string_bytes key)) names)
    (map (λ e. e.0) es) ≡ has_only (map (λ name. name.now) names) (members_view es)
has_only-members names [] = refl
has_only-members names (e ∷ es) =
    rw (
      list_any-map (λ name. bytes_eq name (string_bytes e.0)) (λ name. name.now) names,
      has_only-members names es,
    ) refl

-- the events read so far before those of the members that are left
abbrev pub resumed : List EventValue → Result (List EventValue) ℕ → Result (List EventValue) ℕ
resumed [] others = others
resumed (event ∷ events) others = more_events event (resumed events others)

-- one more event was read
pub resumed-last : (events : List EventValue) (event : EventValue)
    (others : Result (List EventValue) ℕ)
    → resumed (events ++ event ∷ []) others ≡ resumed events (more_events event others)
resumed-last [] event others = refl
resumed-last (e ∷ events) event others = rw (resumed-last events event others) refl

-- a member that is no event ends the reading
pub resumed-err : (events : List EventValue) (nth : ℕ) → resumed events (Err nth) ≡ Err nth
resumed-err [] nth = refl
resumed-err (e ∷ events) nth = rw (resumed-err events nth) refl

-- all members were read
pub resumed-ok : (events : List EventValue) → resumed events (Ok []) ≡ Ok events
resumed-ok [] = refl
resumed-ok (e ∷ events) = rw (resumed-ok events) refl

-- the events of the members from a place on begin with that of the member there
from_place : (frame : Frame) (members : List Value) (place nth least : ℕ) (member : Value)
    → place < length members → member ≡ get_or members place member
    → events_from frame (items_view (drop place members)) nth least
    ≡ followed nth (event_of frame least (view member))
    (events_from frame (items_view (drop (place + 1) members)) (nth + 1))
from_place frame members place nth least member h is =
    rw (items_view-drop members place member h, ← is) refl

module _ (frame : Frame) (members : List Value) (place least : ℕ) (events : List EventValue)
    (read : events_of frame (items_view members)
    ≡ resumed events (events_from frame (items_view (drop place members)) (place + 1) least)) where
  -- a member that is no event is told by its place
  pub events_of-stopped : (member : Value) → place < length members
      → member ≡ get_or members place member → event_of frame least (view member) ≡ None
      → events_of frame (items_view members) ≡ Err (place + 1)
  events_of-stopped member h is none =
      rw (read, from_place frame members place (place + 1) least member h is, none)
      (resumed-err events (place + 1))

  -- a member that is an event comes after those before it
  pub events_of-kept : (member : Value) (event : EventValue) → place < length members
      → member ≡ get_or members place member → event_of frame least (view member) ≡ Some event
      → events_of frame (items_view members)
      ≡ resumed (events ++ event ∷ [])
      (events_from frame (items_view (drop (place + 1) members)) (place + 1 + 1) event.update)
  events_of-kept member event h is some =
      rw (read, from_place frame members place (place + 1) least member h is, some)
      (sym (resumed-last events event _))

  -- where no member is left, these are the events
  pub events_of-ended : drop place members ≡ [] → events_of frame (items_view members) ≡ Ok events
  events_of-ended none = rw (read, none) (resumed-ok events)
