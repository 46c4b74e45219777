-- What a configuration says at each key (docs/FORMATS.md, "The configuration"): as a document's
-- table has it, and as the code's configuration holds it. For example, `width = 20` alone gives the
-- values with `width` 20, `height` 60 and each other default, and without an event.
use Rattle.std.specs.Prelude.{ℕ, Bool, List}
use Rattle.world_config.specs.Prelude.{Members, Letter, letters, RateNumbers}
use Rattle.divide_rules.specs.Rules.{RuleNumbers}
use Rattle.world_config.specs.declared.config.Config.{Config}
use Rattle.world_config.specs.declared.key.Key.TheVariants as code
use Rattle.world_config.specs.Lookup.{number_at, flag_at, genome_at, frame_in}
use Rattle.world_config.specs.Events.{EventValue, event_values}

-- the values of all keys, of which the rates of errors and the rules of a divide are two groups
pub record ConfigValues : Type 0 where
  pub width : ℕ
  pub height : ℕ
  pub updates : ℕ
  pub seed : ℕ
  pub founder_cell : ℕ
  pub average_slices : ℕ
  pub death : Bool
  pub age_limit : ℕ
  pub rates : RateNumbers
  pub prefer_empty : Bool
  pub rules : RuleNumbers
  pub memory_limit : ℕ
  pub ancestor : List Letter
  pub event : List EventValue

-- what a table says at the keys of the six rates
abbrev pub rates_in_table : Members → RateNumbers
rates_in_table ms = record {
  copy = number_at (frame_in ms) code.CopyError ms;
  insert = number_at (frame_in ms) code.DivideInsert ms;
  delete = number_at (frame_in ms) code.DivideDelete ms;
  site_point = number_at (frame_in ms) code.SitePoint ms;
  site_insert = number_at (frame_in ms) code.SiteInsert ms;
  site_delete = number_at (frame_in ms) code.SiteDelete ms;
}

-- what a table says at each key, or the default, with these events, which EventForms reads from it
abbrev pub values_in_table : Members → List EventValue → ConfigValues
values_in_table ms happening = record {
  width = number_at (frame_in ms) code.Width ms;
  height = number_at (frame_in ms) code.Height ms;
  updates = number_at (frame_in ms) code.Updates ms;
  seed = number_at (frame_in ms) code.Seed ms;
  founder_cell = number_at (frame_in ms) code.FounderCell ms;
  average_slices = number_at (frame_in ms) code.AverageSlices ms;
  death = flag_at code.Death ms;
  age_limit = number_at (frame_in ms) code.AgeLimit ms;
  rates = rates_in_table ms;
  prefer_empty = flag_at code.PreferEmpty ms;
  rules = record {
    least = number_at (frame_in ms) code.LeastLength ms;
    greatest = number_at (frame_in ms) code.GreatestLength ms;
    executed_percent = number_at (frame_in ms) code.ExecutedPercent ms;
    copied_percent = number_at (frame_in ms) code.CopiedPercent ms;
    need_alloc = flag_at code.NeedAlloc ms;
  };
  memory_limit = number_at (frame_in ms) code.MemoryLimit ms;
  ancestor = genome_at code.Ancestor ms;
  event = happening;
}

-- the values of the code's configuration
abbrev pub values_of : Config → ConfigValues
values_of config = record {
  width = config.width;
  height = config.height;
  updates = config.updates;
  seed = config.seed;
  founder_cell = config.founder_cell;
  average_slices = config.average_slices;
  death = config.death;
  age_limit = config.age_limit;
  rates = record {
    copy = config.copy_error;
    insert = config.divide_insert;
    delete = config.divide_delete;
    site_point = config.site_point;
    site_insert = config.site_insert;
    site_delete = config.site_delete;
  };
  prefer_empty = config.prefer_empty;
  rules = record {
    least = config.least_length;
    greatest = config.greatest_length;
    executed_percent = config.executed_percent;
    copied_percent = config.copied_percent;
    need_alloc = config.need_alloc;
  };
  memory_limit = config.memory_limit;
  ancestor = letters config.ancestor;
  event = event_values config.event;
}
