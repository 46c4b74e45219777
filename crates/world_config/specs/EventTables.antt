-- Tables that are printed (docs/FORMATS.md, "The configuration"): a key with its value, and events.
-- For example, the event of update 5 that does `clear 0 9` has four keys, in the order of bytes:
-- first, kind, last and update. No clause of a public function cites this file.
use Rattle.std.specs.Prelude.{ℕ, pos, List, [], ◌∷◌, codes}
use Rattle.world_config.specs.Prelude.{nat_cmp, match_ordering, slice_cmp, Data, string, integer, table, Items, no_items, item, Members, no_members, member, letters_text_of, name_of_rate}
use Rattle.world_config.specs.Events.{EventValue, WhatValue, inject, clear, rate}

-- the members with this value at the key, in the order of bytes; a value that was there goes
abbrev pub insert_member : List ℕ → Data → Members → Members
insert_member k d no_members = member k d no_members
insert_member k d (member l e ms) =
    match_ordering (slice_cmp nat_cmp k l) (member k d (member l e ms)) (member l d ms)
    (member l e (insert_member k d ms))

-- the keys and values of the table of an event
abbrev pub event_members : ℕ → WhatValue → Members
event_members update (inject cell ls) =
    member (codes "cell") (integer (pos cell))
    (member (codes "kind") (string (codes "inject"))
    (member (codes "letters") (string (letters_text_of ls))
    (member (codes "update") (integer (pos update)) no_members)))
event_members update (clear first last) =
    member (codes "first") (integer (pos first))
    (member (codes "kind") (string (codes "clear"))
    (member (codes "last") (integer (pos last))
    (member (codes "update") (integer (pos update)) no_members)))
event_members update (rate name ppm) =
    member (codes "kind") (string (codes "rate"))
    (member (codes "name") (string (name_of_rate name))
    (member (codes "ppm") (integer (pos ppm))
    (member (codes "update") (integer (pos update)) no_members)))

-- the array of the tables of events
abbrev pub items_for : List EventValue → Items
items_for [] = no_items
items_for (event ∷ events) = item (table (event_members event.update event.what)) (items_for events)
