-- The bounds of a configuration's values (docs/FORMATS.md, "The configuration").
use Rattle.std.specs.Prelude.{ℕ, ◌*◌, ◌<◌, ◌≤◌, length}
use Rattle.world_laws.specs.Prelude.{AllByRecursion, AreRules, ConfigValues}
use Rattle.world_config.specs.Events.{WhatValue, inject, clear, rate}

-- the number of cells
abbrev pub size_of : ConfigValues → ℕ
size_of config = config.width * config.height

-- an event's cell and genome fit, and its rate is one
abbrev pub FitsWhat : ConfigValues → WhatValue → Type 0
FitsWhat config (inject cell letters) = (cell < size_of config)
    × (config.rules.least ≤ length letters) × (length letters ≤ config.rules.greatest)
FitsWhat config (clear first last) = last < size_of config
FitsWhat config (rate name ppm) = ppm ≤ 1000000

-- values within the bounds of their keys
pub record IsConfig (config : ConfigValues) : Type 0 where
  pub columns : 1 ≤ config.width
  pub few_columns : config.width ≤ 256
  pub rows : 1 ≤ config.height
  pub few_rows : config.height ≤ 256
  pub founder : config.founder_cell < size_of config
  pub average : config.average_slices ≤ 1000
  pub some_age : 1 ≤ config.age_limit
  pub rules : AreRules config.rules
  pub room : config.rules.greatest ≤ config.memory_limit
  pub greatest : config.memory_limit ≤ 8192
  pub long_enough : config.rules.least ≤ length config.ancestor
  pub short_enough : length config.ancestor ≤ config.rules.greatest
  pub few_events : length config.event ≤ 1000
  pub events : AllByRecursion (λ event. FitsWhat config event.what) config.event
