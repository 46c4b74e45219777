-- What the bounds of a configuration say of its values.
use Rattle.std.proofs.Common.{ℕ, ◌+◌, ◌≤◌, Bool, List, [], ◌∷◌, length, arith}
use Rattle.std.specs.Prelude.{filter, ◌==◌}
use Rattle.world_laws.proofs.Prelude.{AllByRecursion, enumerate_from, length-enumerate_from, length-filter, count_by-le-length, mul-le-mul, Letter, IsGenome, EventValue, ConfigValues, events_at, FitsWhat, IsConfig, size_of, all_filtered}

-- the same of an event with its place in the list
abbrev pub FitsPlaced : ConfigValues → ℕ × EventValue → Type 0
FitsPlaced config event = FitsWhat config event.1.what

-- events that fit still do with their places in the list
all_placed : (config : ConfigValues) (from : ℕ) (events : List EventValue)
    → AllByRecursion (λ event. FitsWhat config event.what) events
    → AllByRecursion (FitsPlaced config) (enumerate_from from events)
all_placed config from [] fit = tt
all_placed config from (event ∷ events) fit = (fit.0, all_placed config (from + 1) events fit.1)

-- a part of a list is no longer
pub filter_few : {X : Type 0} (test : X → Bool) (xs : List X) → length (filter test xs) ≤ length xs
filter_few test xs = omega (arith, length-filter test xs, count_by-le-length test xs)

module _ (config : ConfigValues) (fit : IsConfig config) where
  -- the events of an update fit
  pub events_fit : (update : ℕ) → AllByRecursion (FitsPlaced config) (events_at config update)
  unfolding events_at
  events_fit update = all_filtered (FitsPlaced config) _ (enumerate_from 1 config.event)
      (all_placed config 1 config.event fit.events)

  -- an update has at most 1000 events
  pub events_few : (update : ℕ) → length (events_at config update) ≤ 1000
  unfolding events_at
  events_few update =
      let test = λ (event : ℕ × EventValue). event.1.update == update in
      let fewer = filter_few test (enumerate_from 1 config.event) in
      omega (arith, fewer, length-enumerate_from 1 config.event, fit.few_events)

  -- a world has few cells
  pub few_cells : size_of config ≤ 65536
  few_cells = mul-le-mul fit.few_columns fit.few_rows

  -- letters of a length that the configuration allows are a genome
  pub genome_fits : (letters : List Letter) → config.rules.least ≤ length letters
      → length letters ≤ config.rules.greatest → IsGenome letters
  genome_fits letters h k =
      let a = fit.rules.long_enough in
      let b = fit.rules.short_enough in
      record { least = omega arith; greatest = omega arith }
