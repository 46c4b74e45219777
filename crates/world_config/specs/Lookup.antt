-- The values of a document's table at the keys, or their defaults (docs/FORMATS.md, "The
-- configuration"). What is of another kind counts as 0, false or nothing, since Refusal rejects it.
-- `Members` are the keys of a table with their values, and `Items` the members of an array.
use Rattle.std.specs.Prelude.{ℕ, pos, ◌+◌, ◌-◌, ◌*◌, Bool, false, List, [], unwrap_or}
use Rattle.world_config.specs.Prelude.{Data, string, integer, boolean, array, Items, no_items, item, Members, get_member, Letter, spelled_by_letters}
use Rattle.world_config.specs.declared.key.Key.{Key}
use Rattle.world_config.specs.declared.key.Key.TheVariants as code
use Rattle.world_config.specs.KeyTable.{KeyRow, Frame, no_frame, key_name, key_row}
use Rattle.std.specs.Result.{result_unwrap_or}

-- the value at the row's name, or the row's default
abbrev pub value_at : KeyRow → Members → Data
value_at row ms = unwrap_or (get_member row.name ms) row.default

-- the value at a key, or this default
abbrev pub value_or : Key → Data → Members → Data
value_or key default ms = unwrap_or (get_member (key_name key) ms) default

-- the number that a value is, and 0 for a negative one and for what is no number
abbrev pub number_or_zero : Data → ℕ
number_or_zero (integer (pos n)) = n
number_or_zero _ = 0

-- the boolean that a value is, and false for what is no boolean
abbrev pub flag_or_false : Data → Bool
flag_or_false (boolean b) = b
flag_or_false _ = false

-- the letters that a value spells, and no letters for what is no genome
abbrev pub letters_of_value : Data → List Letter
letters_of_value (string text) = result_unwrap_or (spelled_by_letters text) []
letters_of_value _ = []

-- the members of an array, and no members for what is no array
abbrev pub items_of_value : Data → Items
items_of_value (array items) = items
items_of_value _ = no_items

-- how many members an array has
abbrev pub item_count : Items → ℕ
item_count no_items = 0
item_count (item d ds) = item_count ds + 1

-- the number at a key, or the key's default
unfoldable pub number_at : Frame → Key → Members → ℕ
number_at frame key ms = number_or_zero (value_at (key_row frame key) ms)

-- the boolean at a key, or the key's default
unfoldable pub flag_at : Key → Members → Bool
flag_at key ms = flag_or_false (value_at (key_row no_frame key) ms)

-- the letters of the genome at a key, or of the key's default
unfoldable pub genome_at : Key → Members → List Letter
genome_at key ms = letters_of_value (value_at (key_row no_frame key) ms)

-- the members of the array at a key, or of the key's default
unfoldable pub items_at : Key → Members → Items
items_at key ms = items_of_value (value_at (key_row no_frame key) ms)

-- a table's numbers that bound others, with cells from 0; no frame changes their names and defaults
abbrev pub frame_in : Members → Frame
frame_in ms = record {
  last_cell = number_at no_frame code.Width ms * number_at no_frame code.Height ms - 1;
  updates = number_at no_frame code.Updates ms;
  least_length = number_at no_frame code.LeastLength ms;
  greatest_length = number_at no_frame code.GreatestLength ms;
}
