-- The table of a configuration says what the configuration says.
use Rattle.std.proofs.Common.{◌≡◌, ℕ, ◌≤◌, List, [], ◌∷◌, length, Option, None, Ok, refl, ap, ◌∙◌, arith, lit≤, max, Ordering, Less, Equal, Greater, nat_cmp}
use Rattle.world_config.proofs.Prelude.{option_map, option_or, match_ordering, slice_cmp, Data, Members, no_members, member, depth, items_depth, members_depth, Letter, letters, letters_text_of, spelled_by_letters, Key, ConfigStop, Frame, key_name, key_row, keys, frame_of, flag_at, frame_in, genome_at, items_at, number_at, first_refusal, is_known, least_unknown, refusal_at, refusal_of, event_values, events_of, ConfigValues, values_in_table, config_in, unless_refused, values_with, insert_member, items_for, printed_at, members_for, with_keys}
use Rattle.world_config.specs.declared.config.Config.{Config}
use Rattle.world_config.specs.declared.key.Key.TheVariants as code
use Rattle.world_config.specs.declared.stop.ConfigStop.TheVariants.{UnknownKey}
use Rattle.world_config.specs.Values.{values_of}
use Rattle.world_config.proofs.KindLemmas.{IsOfKind, accepted_value}
use Rattle.world_config.proofs.PrintLemmas.{IsFrame, events_of-items, item_count-items, items_depth-events, spelled_by_letters-text}
use Rattle.std.specs.Result.{result_unwrap_or}

-- the frame of the values
abbrev pub values_frame : ConfigValues → Frame
values_frame v = frame_of v.width v.height v.updates v.rules.least v.rules.greatest

-- each key of the table has a row
no_unknown : (v : ConfigValues) → least_unknown (members_for v) ≡ None
unfolding is_known
no_unknown v = refl

-- the table has the frame of the values
frame_in-members : (v : ConfigValues) → frame_in (members_for v) ≡ values_frame v
unfolding number_at
frame_in-members v = refl

-- the table has the tables of the events
items_at-members : (v : ConfigValues) → items_at code.Event (members_for v) ≡ items_for v.event
unfolding items_at
items_at-members v = refl

-- the table has the letters of the ancestor
genome_at-members : (v : ConfigValues)
    → genome_at code.Ancestor (members_for v)
    ≡ result_unwrap_or (spelled_by_letters (letters_text_of v.ancestor)) []
unfolding genome_at
genome_at-members v = refl

-- the table has the values, where it has their ancestor
values_in-members : (v : ConfigValues) → genome_at code.Ancestor (members_for v) ≡ v.ancestor
    → values_in_table (members_for v) v.event ≡ v
unfolding number_at flag_at
values_in-members v h = ap (λ (ls : List Letter). record v { ancestor = ls }) h

-- the refusal of the first of these keys whose printed value is refused
abbrev first_refusal_of : ConfigValues → List Key → Option ConfigStop
first_refusal_of v [] = None
first_refusal_of v (key ∷ others) =
    option_or (refusal_of (key_row (values_frame v) key).kind key (printed_at v key))
    (first_refusal_of v others)

-- the table's refusal is that of the printed values
refusal-members : (v : ConfigValues) → first_refusal keys (members_for v) ≡ first_refusal_of v keys
unfolding refusal_at number_at
refusal-members v = refl

module _ (c : Config) (read : spelled_by_letters (letters_text_of (letters c.ancestor))
    ≡ Ok (letters c.ancestor)) where
  -- each printed value is one that the key's row accepts
  fits_at : (key : Key) → IsOfKind (key_row (values_frame (values_of c)) key).kind
      (printed_at (values_of c) key)
  fits_at code.Ancestor = (letters c.ancestor, read, c.ancestor_bounds)
  fits_at code.Event = rw (item_count-items (event_values c.event)) c.event_bounds.number
  fits_at _ = assumption c

  -- no printed value is refused
  none_refused : (others : List Key) → first_refusal_of (values_of c) others ≡ None
  none_refused [] = refl
  none_refused (key ∷ others) =
      rw (accepted_value (key_row (values_frame (values_of c)) key).kind key
      (printed_at (values_of c) key) (fits_at key)) (none_refused others)

-- the table of a configuration says what the configuration says
pub config_in-members : (c : Config) → config_in (members_for (values_of c)) ≡ Ok (values_of c)
config_in-members c =
    let v = values_of c in
    let low : 8 ≤ length v.ancestor = omega (arith, c.ancestor_bounds.0, c.least_length_bounds.0) in
    let high : length v.ancestor ≤ 8192 =
    omega (arith, c.ancestor_bounds.1, c.greatest_length_bounds.1) in
    let read : spelled_by_letters (letters_text_of v.ancestor) ≡ Ok v.ancestor =
    spelled_by_letters-text v.ancestor low high in
    let ms : Members = members_for v in
    let frame : IsFrame (values_frame v) =
    record { least = c.least_length_bounds.0; greatest = c.greatest_length_bounds.1 } in
    let happening : events_of (frame_in ms) (items_at code.Event ms) ≡ Ok v.event =
    ap (λ f. events_of f (items_at code.Event ms)) (frame_in-members v)
    ∙ ap (events_of (values_frame v)) (items_at-members v)
    ∙ events_of-items (values_frame v) frame v.event c.event_bounds in
    ap (λ o. unless_refused (option_or (option_map (λ key. UnknownKey key) o) (first_refusal keys ms))
    (values_with ms (events_of (frame_in ms) (items_at code.Event ms)))) (no_unknown v)
    ∙ ap (λ o. unless_refused o (values_with ms
    (events_of (frame_in ms) (items_at code.Event ms))))
    (refusal-members v ∙ none_refused c read keys)
    ∙ ap (values_with ms) happening
    ∙ ap Ok (values_in-members v (genome_at-members v ∙ ap (λ r. result_unwrap_or r []) read))

-- the deeper of two is not deeper than both
max_within : (a b : ℕ) → a ≤ 2 → b ≤ 2 → max a b ≤ 2
max_within a b p q = omega (arith, p, q)

-- neither of two is deeper than both
max_parts : (a b : ℕ) → max a b ≤ 2 → (a ≤ 2) × (b ≤ 2)
max_parts a b h = (omega (arith, h), omega (arith, h))

-- a table is as deep as what it is chosen from
match_depth : (o : Ordering) (a b c : Members) → members_depth a ≤ 2 → members_depth b ≤ 2
    → members_depth c ≤ 2 → members_depth (match_ordering o a b c) ≤ 2
match_depth Less a b c p q r = p
match_depth Equal a b c p q r = q
match_depth Greater a b c p q r = r

-- one more member that is not deep
insert_depth : (k : List ℕ) (d : Data) (ms : Members) → depth d ≤ 2 → members_depth ms ≤ 2
    → members_depth (insert_member k d ms) ≤ 2
insert_depth k d no_members h m = max_within (depth d) 0 h (lit≤ tt)
insert_depth k d (member l e ms) h m =
    let (first, others) = max_parts (depth e) (members_depth ms) m in
    match_depth (slice_cmp nat_cmp k l) (member k d (member l e ms)) (member l d ms)
    (member l e (insert_member k d ms))
    (max_within (depth d) (members_depth (member l e ms)) h m)
    (max_within (depth d) (members_depth ms) h others)
    (max_within (depth e) (members_depth (insert_member k d ms)) first
    (insert_depth k d ms h others))

-- no printed value is deep
printed_depth : (v : ConfigValues) (key : Key) → depth (printed_at v key) ≤ 2
printed_depth v code.Event =
    let tables : items_depth (items_for v.event) ≤ 1 = items_depth-events v.event in
    omega (arith, tables)
printed_depth v _ = lit≤ tt

-- printed keys make no table deep
with_keys_depth : (v : ConfigValues) (others : List Key) (ms : Members) → members_depth ms ≤ 2
    → members_depth (with_keys others v ms) ≤ 2
with_keys_depth v [] ms h = h
with_keys_depth v (key ∷ others) ms h =
    with_keys_depth v others (insert_member (key_name key) (printed_at v key) ms)
    (insert_depth (key_name key) (printed_at v key) ms (printed_depth v key) h)

-- the table is not deep
pub members_depth-for : (v : ConfigValues) → members_depth (members_for v) ≤ 80
members_depth-for v =
    let few : members_depth (members_for v) ≤ 2 =
    with_keys_depth v keys no_members (lit≤ tt) in omega (arith, few)
