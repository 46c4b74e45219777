-- The values of a configuration are within the bounds of their keys.
use Rattle.std.proofs.Common.{◌≡◌, ◌-◌, ◌*◌, ◌≤◌, true, List, [], ◌∷◌, arith}
use Rattle.std.specs.Prelude.{nat_le}
use Rattle.world_laws.proofs.Prelude.{AllByRecursion, mul-le-mul, and_parts, leb-true, recursion_from_All, EventValue, WhatValue, inject, clear, rate, what_fits, event_fits, event_values, values_of, ConfigValues, IsConfig, size_of, FitsWhat}
use Rattle.world_config.specs.declared.config.Config.{Config}
use Rattle.world_config.proofs.ReadBackLemmas.{values_frame}

-- what the frame allows an event to do fits the configuration
what_within : (config : ConfigValues) → 1 ≤ size_of config → (what : WhatValue)
    → what_fits (values_frame config) what ≡ true → FitsWhat config what
what_within config some (inject cell letters) h =
    let first = and_parts _ _ h in
    let lengths = and_parts _ _ first.1 in
    let low : cell ≤ size_of config - 1 = leb-true _ _ first.0 in
    (omega arith, leb-true _ _ lengths.0, leb-true _ _ lengths.1)
what_within config some (clear first last) h =
    let low : last ≤ size_of config - 1 = leb-true _ _ (and_parts (nat_le first last) _ h).1 in
    omega arith
what_within config some (rate name ppm) h = leb-true _ _ h

-- events that fit the frame fit the configuration
events_within : (config : ConfigValues) → 1 ≤ size_of config → (events : List EventValue)
    → AllByRecursion (λ event. event_fits (values_frame config) event ≡ true) events
    → AllByRecursion (λ event. FitsWhat config event.what) events
events_within config some [] h = tt
events_within config some (event ∷ events) h =
    (what_within config some event.what (and_parts _ _ h.0).1, events_within config some events h.1)

-- what a configuration keeps in its type
pub config_is : (config : Config) → IsConfig (values_of config)
config_is config =
    let some : 1 ≤ config.width * config.height =
    mul-le-mul config.width_bounds.0 config.height_bounds.0 in
    record {
      columns = config.width_bounds.0;
      few_columns = config.width_bounds.1;
      rows = config.height_bounds.0;
      few_rows = config.height_bounds.1;
      founder = omega (arith, config.founder_cell_bounds.1, some);
      average = config.average_slices_bounds.1;
      some_age = config.age_limit_bounds.0;
      rules = record {
        long_enough = config.least_length_bounds.0;
        ordered = config.greatest_length_bounds.0;
        short_enough = config.greatest_length_bounds.1;
        executed_is_asked = config.executed_percent_bounds.0;
        executed_is_percent = config.executed_percent_bounds.1;
        copied_is_asked = config.copied_percent_bounds.0;
        copied_is_percent = config.copied_percent_bounds.1;
      };
      room = config.memory_limit_bounds.0;
      greatest = config.memory_limit_bounds.1;
      long_enough = config.ancestor_bounds.0;
      short_enough = config.ancestor_bounds.1;
      few_events = config.event_bounds.number;
      events = events_within (values_of config) some (event_values config.event)
          (recursion_from_All _ (event_values config.event) config.event_bounds.fit);
    }
