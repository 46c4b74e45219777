-- What a configuration sets for an update (docs/WORLD.md, "Events" and "The life of one update").
-- For example, if an event of update 5 sets copy_error to 0, the rate of the key holds up to update
-- 5, and 0 from update 6 on.
use Rattle.std.specs.Prelude.{ℕ, filter, fold, nat_lt}
use Rattle.world_rules.specs.Prelude.{Copy, Insert, Delete, SitePoint, SiteInsert, SiteDelete, EventValue, WhatValue, rate, ConfigValues}
use Rattle.birth_board.specs.declared.placing_round.PlacingRound.{PlacingRound}
use Rattle.birth_board.specs.Torus.{TorusNumbers}
use Rattle.mutations.specs.declared.rate_name.RateName.{RateName}
use Rattle.mutations.specs.Rates.{RateNumbers}
use Rattle.organism.specs.SettingNumbers.{SettingNumbers}

-- the rates, one of them with another value
abbrev pub with_rate : RateNumbers → RateName → ℕ → RateNumbers
with_rate rates Copy ppm = record rates { copy = ppm }
with_rate rates Insert ppm = record rates { insert = ppm }
with_rate rates Delete ppm = record rates { delete = ppm }
with_rate rates SitePoint ppm = record rates { site_point = ppm }
with_rate rates SiteInsert ppm = record rates { site_insert = ppm }
with_rate rates SiteDelete ppm = record rates { site_delete = ppm }

-- the rates after what an event does
abbrev pub rates_after_what : RateNumbers → WhatValue → RateNumbers
rates_after_what rates (rate name ppm) = with_rate rates name ppm
rates_after_what rates _ = rates

-- the rates after an event
abbrev pub rates_after : RateNumbers → EventValue → RateNumbers
rates_after rates event = rates_after_what rates event.what

-- the rates that hold in an update: those at the keys, changed by the events before it in order
unfoldable pub rates_at : ConfigValues → ℕ → RateNumbers
rates_at config update =
    fold rates_after config.rates (filter (λ event. nat_lt event.update update) config.event)

-- what a life in an update needs to know of its world
unfoldable pub settings_at : ConfigValues → ℕ → SettingNumbers
settings_at config update = record {
  rates = rates_at config update;
  rules = config.rules;
  death = config.death;
  age_limit = config.age_limit;
  memory_limit = config.memory_limit;
}

-- the torus of the cells
abbrev pub torus_of : ConfigValues → TorusNumbers
torus_of config = record { width = config.width; height = config.height }

-- what the placing of an update needs besides the cells
abbrev pub placing_round_at : ConfigValues → ℕ → ℕ → PlacingRound
placing_round_at config update next_id =
    record {
      seed = config.seed;
      update = update;
      prefer_empty = config.prefer_empty;
      next_id = next_id;
    }
