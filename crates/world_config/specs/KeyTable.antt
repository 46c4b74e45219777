-- The table of keys (docs/FORMATS.md, "The configuration"): each key's name, default and range, in
-- the order of trying: `width` is from 1 to 256, and 60 where a document has none. `Data` is TOML's
-- value: `integer (pos 60)` is 60, `integer (negsuc 0)` is -1, and `string` has a text's bytes.
use Rattle.std.specs.Prelude.{ℕ, max, pos, true, List, [], ◌∷◌, ◌++◌, codes, replicate, ◌-◌, ◌*◌}
use Rattle.world_config.specs.Prelude.{Data, string, integer, boolean, array, no_items}
use Rattle.world_config.specs.declared.key.Key.{Key}
use Rattle.world_config.specs.declared.key.Key.TheVariants as code

-- what a value may be: a genome's bounds are those of its length, and `most` is a number of events
pub data Kind : Type 0 where
  number : (least greatest : ℕ) → Kind
  flag : Kind
  genome : (least greatest : ℕ) → Kind
  events : (most : ℕ) → Kind

-- a row: the key's name, the value of a key that is missing, and what a value may be
pub record KeyRow : Type 0 where
  pub name : List ℕ
  pub default : Data
  pub kind : Kind

-- the row of these three
abbrev pub row : List ℕ → Data → Kind → KeyRow
row name default kind = record { name = name; default = default; kind = kind }

-- the row of a number: its name, its default, and the least and the greatest value
abbrev pub number_row : List ℕ → ℕ → ℕ → ℕ → KeyRow
number_row name default least greatest = row name (integer (pos default)) (number least greatest)

-- the numbers of a configuration that bound its other values, as `last_cell` bounds `founder_cell`
pub record Frame : Type 0 where
  pub last_cell : ℕ
  pub updates : ℕ
  pub least_length : ℕ
  pub greatest_length : ℕ

-- the letters of the default ancestor: `wzcag`, then `c`, whose byte is 99, 86 times, then the rest
abbrev pub default_ancestor : List ℕ
default_ancestor = codes "wzcag" ++ replicate 86 99 ++ codes "zvfcaxgab"

-- each key's row, bounded by the frame's numbers; a seed's greatest is TOML's integer 2 ^ 63 - 1
abbrev pub key_row : Frame → Key → KeyRow
key_row frame code.Width = number_row (codes "width") 60 1 256
key_row frame code.Height = number_row (codes "height") 60 1 256
key_row frame code.Updates = number_row (codes "updates") 100 0 1000000
key_row frame code.Seed = number_row (codes "seed") 1 0 9223372036854775807
key_row frame code.FounderCell = number_row (codes "founder_cell") 0 0 frame.last_cell
key_row frame code.AverageSlices = number_row (codes "average_slices") 30 1 1000
key_row frame code.Death = row (codes "death") (boolean true) flag
key_row frame code.AgeLimit = number_row (codes "age_limit") 20 1 1000
key_row frame code.CopyError = number_row (codes "copy_error") 7500 0 1000000
key_row frame code.DivideInsert = number_row (codes "divide_insert") 50000 0 1000000
key_row frame code.DivideDelete = number_row (codes "divide_delete") 50000 0 1000000
key_row frame code.SitePoint = number_row (codes "site_point") 0 0 1000000
key_row frame code.SiteInsert = number_row (codes "site_insert") 0 0 1000000
key_row frame code.SiteDelete = number_row (codes "site_delete") 0 0 1000000
key_row frame code.PreferEmpty = row (codes "prefer_empty") (boolean true) flag
key_row frame code.NeedAlloc = row (codes "need_alloc") (boolean true) flag
key_row frame code.ExecutedPercent = number_row (codes "executed_percent") 50 1 100
key_row frame code.CopiedPercent = number_row (codes "copied_percent") 50 1 100
key_row frame code.LeastLength = number_row (codes "least_length") 8 8 8192
key_row frame code.GreatestLength =
    number_row (codes "greatest_length") 2048 frame.least_length 8192
key_row frame code.MemoryLimit =
    number_row (codes "memory_limit") (max 2048 frame.greatest_length) frame.greatest_length 8192
key_row frame code.Ancestor =
    row (codes "ancestor") (string default_ancestor)
    (genome frame.least_length frame.greatest_length)
key_row frame code.Event = row (codes "event") (array no_items) (events 1000)

-- the keys in the order in which they are tried
abbrev pub keys : List Key
keys =
    code.Width ∷ code.Height ∷ code.Updates ∷ code.Seed ∷ code.FounderCell ∷ code.AverageSlices
    ∷ code.Death ∷ code.AgeLimit ∷ code.CopyError ∷ code.DivideInsert ∷ code.DivideDelete
    ∷ code.SitePoint ∷ code.SiteInsert ∷ code.SiteDelete ∷ code.PreferEmpty ∷ code.NeedAlloc
    ∷ code.ExecutedPercent ∷ code.CopiedPercent ∷ code.LeastLength ∷ code.GreatestLength
    ∷ code.MemoryLimit ∷ code.Ancestor ∷ code.Event ∷ []

-- a frame of zeros, for what is the same in every frame, such as names
abbrev pub no_frame : Frame
no_frame = record { last_cell = 0; updates = 0; least_length = 0; greatest_length = 0 }

-- the name of a key
abbrev pub key_name : Key → List ℕ
key_name key = (key_row no_frame key).name

-- the last cell of a world of this width and height: cells are numbered from 0
abbrev pub last_cell_of : ℕ → ℕ → ℕ
last_cell_of width height = width * height - 1

-- the frame of this width, height, number of updates, least length and greatest length
abbrev pub frame_of : ℕ → ℕ → ℕ → ℕ → ℕ → Frame
frame_of width height updates least_length greatest_length = record {
  last_cell = last_cell_of width height;
  updates = updates;
  least_length = least_length;
  greatest_length = greatest_length;
}
