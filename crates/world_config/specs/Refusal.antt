-- What refuses a configuration (docs/FORMATS.md, "The configuration"): a key without a row, then
-- the first key whose value is not what its row asks, as `width = 0`; `width = 0` with `wide = 1`
-- is refused for `wide`. None is no refusal. Config has the refusal of an event.
use Rattle.std.specs.Prelude.{ℕ, ℤ, pos, negsuc, Bool, ◌&&◌, nat_le, if◌then◌else◌, List, [], ◌∷◌, length, Option, Some, None, Result, Ok, Err}
use Rattle.world_config.specs.Prelude.{list_any, option_map, option_or, nat_cmp, is_lt, slice_cmp, bytes_eq, Data, string, integer, boolean, array, Members, no_members, member, Letter, GenomeStop, spelled_by_letters}
use Rattle.world_config.specs.declared.key.Key.{Key}
use Rattle.world_config.specs.declared.stop.ConfigStop.{ConfigStop}
use Rattle.world_config.specs.declared.stop.ConfigStop.TheVariants.{UnknownKey, WrongKind, OutOfRange, BadAncestor}
use Rattle.world_config.specs.KeyTable.{Kind, number, flag, genome, events, Frame, key_row, key_name, keys}
use Rattle.world_config.specs.Lookup.{value_at, item_count, frame_in}

-- a row of the table of keys has this name
unfoldable pub is_known : List ℕ → Bool
is_known text = list_any (λ key. bytes_eq (key_name key) text) keys

-- the key, or the other where that is less in byte order
abbrev pub least_of : List ℕ → Option (List ℕ) → List ℕ
least_of key None = key
least_of key (Some other) = if is_lt (slice_cmp nat_cmp other key) then other else key

-- the key that no row names, and of several the least in byte order
abbrev pub least_unknown : Members → Option (List ℕ)
least_unknown no_members = None
least_unknown (member key value ms) =
    if is_known key then least_unknown ms else Some (least_of key (least_unknown ms))

-- the refusal of a number that lies outside these bounds; `negsuc n` is below 0
abbrev pub unless_within : Key → ℕ → ℕ → ℤ → Option ConfigStop
unless_within key least greatest (pos n) =
    if nat_le least n && nat_le n greatest then None else Some (OutOfRange key (pos n))
unless_within key least greatest (negsuc n) = Some (OutOfRange key (negsuc n))

-- the refusal of a text as a genome: first for why it spells none, then for its length
abbrev pub unless_genome : Key → ℕ → ℕ → Result (List Letter) GenomeStop → Option ConfigStop
unless_genome key least greatest (Ok ls) = unless_within key least greatest (pos (length ls))
unless_genome key least greatest (Err stop) = Some (BadAncestor stop)

-- the refusal of a key's value: for its kind, then for a text that is no genome, then its bounds
abbrev pub refusal_of : Kind → Key → Data → Option ConfigStop
refusal_of (number least greatest) key (integer z) = unless_within key least greatest z
refusal_of flag key (boolean b) = None
refusal_of (genome least greatest) key (string text) =
    unless_genome key least greatest (spelled_by_letters text)
refusal_of (events most) key (array items) = unless_within key 0 most (pos (item_count items))
refusal_of _ key _ = Some (WrongKind key)

-- the refusal of the value at a key, or of the key's default
unfoldable pub refusal_at : Frame → Key → Members → Option ConfigStop
refusal_at frame key ms = refusal_of (key_row frame key).kind key (value_at (key_row frame key) ms)

-- the refusal of the first of these keys whose value is refused
abbrev pub first_refusal : List Key → Members → Option ConfigStop
first_refusal [] ms = None
first_refusal (key ∷ others) ms =
    option_or (refusal_at (frame_in ms) key ms) (first_refusal others ms)

-- the first refusal of a table: of a key that no row names, then of each key in the order of rows
abbrev pub refusal_in : Members → Option ConfigStop
refusal_in ms =
    option_or (option_map (λ key. UnknownKey key) (least_unknown ms)) (first_refusal keys ms)
