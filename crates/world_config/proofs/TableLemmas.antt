-- An insert into a table beside one into the members that it stands for.
use Rattle.std.proofs.Common.{◌≡◌, ℕ, ◌+◌, ◌<◌, List, [], ◌∷◌, ◌++◌, length, map, take, get_or, String, Global, string_bytes, refl, ◌∙◌, Ordering, Less, Equal, Greater}
use Rattle.world_config.proofs.Prelude.{match_ordering, map-append, take_more, string_cmp, Value, push_item, table, view, items_view, members_view, Entry, items_view-push, EventValue, event_value, what_value, event_members, insert_member, items_for}
use Rattle.std.specs.BTreeMap.{insert_entry}
use Rattle.world_config.specs.declared.event.Event.{Event}

-- the members of a table that is chosen by an order
match_members : (o : Ordering) (a b c : List Entry)
    → members_view (match_ordering o a b c) ≡ match_ordering o (members_view a) (members_view b)
    (members_view c)
match_members Less a b c = refl
match_members Equal a b c = refl
match_members Greater a b c = refl

-- the members of a table with one more entry
pub members_view-insert_entry : (es : List Entry) (k : String Global) (v : Value)
    → members_view (insert_entry string_cmp es k v) ≡ insert_member (string_bytes k) (view v)
    (members_view es)
members_view-insert_entry [] k v = refl
members_view-insert_entry (e ∷ es) k v =
    match_members (string_cmp k e.0) _ _ _ ∙ rw (members_view-insert_entry es k v)

-- the tables of events with one more event at the end
items_for-last : (events : List EventValue) (event : EventValue)
    → items_for (events ++ event ∷ [])
    ≡ push_item (items_for events) (table (event_members event.update event.what))
items_for-last [] event = refl
items_for-last (e ∷ events) event = rw (items_for-last events event) refl

-- one more table at the end, for the next event
pub items_view-more : (tables : List Value) (value : Value) (events : List Event) (i : ℕ)
    (event : Event) → i < length events → event ≡ get_or events i event
    → items_view tables ≡ items_for (map event_value (take i events))
    → view value ≡ table (event_members event.update (what_value event.what))
    → items_view (tables ++ value ∷ []) ≡ items_for (map event_value (take (i + 1) events))
items_view-more tables value events i event h is before seen =
    items_view-push tables value
    ∙ rw (before, seen, take_more events i event h, ← is, map-append, items_for-last) refl
