-- Each key's value, as the code reads it into a group of keys, and as it prints it. For example,
-- with `width = 20` in the table, ArePlace holds only of a group whose `width` is 20, and 20 is
-- printed at Width again. No clause of a public function cites this file.
use Rattle.std.specs.Prelude.{◌≡◌, pos, List, [], ◌∷◌, ◌++◌}
use Rattle.world_config.specs.Prelude.{Data, string, integer, boolean, array, Members, letters_text_of, numbers_of}
use Rattle.world_config.specs.declared.key.Key.{Key}
use Rattle.world_config.specs.declared.key.Key.TheVariants as code
use Rattle.world_config.specs.declared.groups.PlaceKeys.{PlaceKeys}
use Rattle.world_config.specs.declared.groups.LifeKeys.{LifeKeys}
use Rattle.world_config.specs.declared.groups.DivideKeys.{DivideKeys}
use Rattle.world_config.specs.declared.groups.LengthKeys.{LengthKeys}
use Rattle.world_config.specs.declared.numbers.Numbers.{Numbers}
use Rattle.world_config.specs.KeyTable.{Frame, frame_of}
use Rattle.world_config.specs.Lookup.{number_at, flag_at, frame_in}
use Rattle.world_config.specs.Values.{ConfigValues, rates_in_table}
use Rattle.world_config.specs.EventTables.{items_for}

-- the keys of the world and of its run
abbrev pub place_keys : List Key
place_keys = code.Width ∷ code.Height ∷ code.Updates ∷ code.Seed ∷ code.FounderCell ∷ []

-- the keys of how many steps an organism takes in an update, and of its death of age
abbrev pub life_keys : List Key
life_keys = code.AverageSlices ∷ code.Death ∷ code.AgeLimit ∷ []

-- the keys of the six rates of errors
abbrev pub rate_keys : List Key
rate_keys = code.CopyError ∷ code.DivideInsert ∷ code.DivideDelete ∷ code.SitePoint
    ∷ code.SiteInsert ∷ code.SiteDelete ∷ []

-- the keys of where a child is placed, and of what a divide must meet
abbrev pub divide_keys : List Key
divide_keys = code.PreferEmpty ∷ code.NeedAlloc ∷ code.ExecutedPercent ∷ code.CopiedPercent ∷ []

-- the keys of the lengths of genomes, and of the memory in which they run
abbrev pub length_keys : List Key
length_keys = code.LeastLength ∷ code.GreatestLength ∷ code.MemoryLimit ∷ []

-- the keys whose values are numbers or booleans
abbrev pub number_keys : List Key
number_keys = place_keys ++ (life_keys ++ (rate_keys ++ (divide_keys ++ length_keys)))

-- the group has the table's values at the keys of the world and of its run
pub record ArePlace (ms : Members) (place : PlaceKeys) : Type 0 where
  pub width : number_at (frame_in ms) code.Width ms ≡ place.width
  pub height : number_at (frame_in ms) code.Height ms ≡ place.height
  pub updates : number_at (frame_in ms) code.Updates ms ≡ place.updates
  pub seed : number_at (frame_in ms) code.Seed ms ≡ place.seed
  pub founder_cell : number_at (frame_in ms) code.FounderCell ms ≡ place.founder_cell

-- the group has the table's values at the keys of an organism's steps and of its death of age
pub record AreLife (ms : Members) (life : LifeKeys) : Type 0 where
  pub average_slices : number_at (frame_in ms) code.AverageSlices ms ≡ life.average_slices
  pub death : flag_at code.Death ms ≡ life.death
  pub age_limit : number_at (frame_in ms) code.AgeLimit ms ≡ life.age_limit

-- the group has the table's values at the keys of placing a child and of what a divide must meet
pub record AreDivide (ms : Members) (divide : DivideKeys) : Type 0 where
  pub prefer_empty : flag_at code.PreferEmpty ms ≡ divide.prefer_empty
  pub need_alloc : flag_at code.NeedAlloc ms ≡ divide.need_alloc
  pub executed_percent : number_at (frame_in ms) code.ExecutedPercent ms ≡ divide.executed_percent
  pub copied_percent : number_at (frame_in ms) code.CopiedPercent ms ≡ divide.copied_percent

-- the group has the table's values at the keys of the lengths of genomes and of memory
pub record AreLengths (ms : Members) (lengths : LengthKeys) : Type 0 where
  pub least_length : number_at (frame_in ms) code.LeastLength ms ≡ lengths.least_length
  pub greatest_length : number_at (frame_in ms) code.GreatestLength ms ≡ lengths.greatest_length
  pub memory_limit : number_at (frame_in ms) code.MemoryLimit ms ≡ lengths.memory_limit

-- all groups have the table's values
pub record AreNumbers (ms : Members) (numbers : Numbers) : Type 0 where
  pub place : ArePlace ms numbers.place
  pub life : AreLife ms numbers.life
  pub rates : rates_in_table ms ≡ numbers_of numbers.rates
  pub divide : AreDivide ms numbers.divide
  pub lengths : AreLengths ms numbers.lengths

-- the numbers of these groups that bound other values
abbrev pub numbers_frame : Numbers → Frame
numbers_frame numbers =
    frame_of numbers.place.width numbers.place.height numbers.place.updates
    numbers.lengths.least_length numbers.lengths.greatest_length

-- the value that a printed document has at a key
abbrev pub printed_at : ConfigValues → Key → Data
printed_at v code.Width = integer (pos v.width)
printed_at v code.Height = integer (pos v.height)
printed_at v code.Updates = integer (pos v.updates)
printed_at v code.Seed = integer (pos v.seed)
printed_at v code.FounderCell = integer (pos v.founder_cell)
printed_at v code.AverageSlices = integer (pos v.average_slices)
printed_at v code.Death = boolean v.death
printed_at v code.AgeLimit = integer (pos v.age_limit)
printed_at v code.CopyError = integer (pos v.rates.copy)
printed_at v code.DivideInsert = integer (pos v.rates.insert)
printed_at v code.DivideDelete = integer (pos v.rates.delete)
printed_at v code.SitePoint = integer (pos v.rates.site_point)
printed_at v code.SiteInsert = integer (pos v.rates.site_insert)
printed_at v code.SiteDelete = integer (pos v.rates.site_delete)
printed_at v code.PreferEmpty = boolean v.prefer_empty
printed_at v code.NeedAlloc = boolean v.rules.need_alloc
printed_at v code.ExecutedPercent = integer (pos v.rules.executed_percent)
printed_at v code.CopiedPercent = integer (pos v.rules.copied_percent)
printed_at v code.LeastLength = integer (pos v.rules.least)
printed_at v code.GreatestLength = integer (pos v.rules.greatest)
printed_at v code.MemoryLimit = integer (pos v.memory_limit)
printed_at v code.Ancestor = string (letters_text_of v.ancestor)
printed_at v code.Event = array (items_for v.event)
