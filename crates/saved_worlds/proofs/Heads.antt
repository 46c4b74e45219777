-- The head of a run's state is in range.
use Rattle.std.proofs.Common.{◌≡◌, ◌+◌, ◌≤◌, ◌^◌, ℕ, Bool, true, List, [], ◌∷◌, arith}
use Rattle.std.specs.Prelude.{fold, nat_lt}
use Rattle.saved_worlds.proofs.Prelude.{AllByRecursion, and_parts, leb-true, All-filter, recursion_from_All, RateNumbers, Config, IsWithin, frame_of, Frame, EventValue, WhatValue, clear, event_fits, event_values, inject, rate, what_fits, values_of, rates_after, rates_after_what, rates_at, with_rate, head_at, AreRates, IsHead}
use Rattle.mutations.specs.declared.rate_name.RateName.{RateName}
use Rattle.mutations.specs.declared.rate_name.RateName.TheVariants.{Copy, Insert, Delete, SitePoint, SiteInsert, SiteDelete}
use Rattle.world_laws.proofs.ConfigBounds.{config_is}

-- six rates, each in range
six_fit : (rates : RateNumbers) → rates.copy ≤ 1000000 → rates.insert ≤ 1000000
    → rates.delete ≤ 1000000 → rates.site_point ≤ 1000000 → rates.site_insert ≤ 1000000
    → rates.site_delete ≤ 1000000 → AreRates rates
six_fit rates copy insert delete site_point site_insert site_delete = record {
  copy = copy;
  insert = insert;
  delete = delete;
  site_point = site_point;
  site_insert = site_insert;
  site_delete = site_delete;
}

-- another value of one rate
with_fit : (rates : RateNumbers) (name : RateName) (ppm : ℕ) → AreRates rates → ppm ≤ 1000000
    → AreRates (with_rate rates name ppm)
with_fit rates Copy ppm are low =
    six_fit _ low are.insert are.delete are.site_point are.site_insert are.site_delete
with_fit rates Insert ppm are low =
    six_fit _ are.copy low are.delete are.site_point are.site_insert are.site_delete
with_fit rates Delete ppm are low =
    six_fit _ are.copy are.insert low are.site_point are.site_insert are.site_delete
with_fit rates SitePoint ppm are low =
    six_fit _ are.copy are.insert are.delete low are.site_insert are.site_delete
with_fit rates SiteInsert ppm are low =
    six_fit _ are.copy are.insert are.delete are.site_point low are.site_delete
with_fit rates SiteDelete ppm are low =
    six_fit _ are.copy are.insert are.delete are.site_point are.site_insert low

-- what an event does
after_fit : (frame : Frame) (rates : RateNumbers) (what : WhatValue) → AreRates rates
    → what_fits frame what ≡ true → AreRates (rates_after_what rates what)
after_fit frame rates (inject cell letters) are fits = are
after_fit frame rates (clear first last) are fits = are
after_fit frame rates (rate name ppm) are fits = with_fit rates name ppm are (leb-true _ _ fits)

-- the events before an update
all_fit : (frame : Frame) (rates : RateNumbers) (events : List EventValue) → AreRates rates
    → AllByRecursion (λ (event : EventValue). event_fits frame event ≡ true) events
    → AreRates (fold rates_after rates events)
all_fit frame rates [] are fit = are
all_fit frame rates (event ∷ events) are fit =
    all_fit frame (rates_after rates event) events
    (after_fit frame rates event.what are (and_parts _ _ fit.0).1) fit.1

-- the first line after so many updates, with this next id
pub head_of_run : (config : Config) (updates next_id : ℕ) → updates ≤ 1000000
    → IsWithin 1 (2 ^ 62) next_id → IsHead (head_at (values_of config) updates next_id)
unfolding rates_at
head_of_run config updates next_id few ids =
    let frame = frame_of config.width config.height config.updates config.least_length
    config.greatest_length in
    let before : EventValue → Bool = λ event. nat_lt event.update (updates + 1) in
    let first : AreRates (values_of config).rates = record {
      copy = config.copy_error_bounds.1;
      insert = config.divide_insert_bounds.1;
      delete = config.divide_delete_bounds.1;
      site_point = config.site_point_bounds.1;
      site_insert = config.site_insert_bounds.1;
      site_delete = config.site_delete_bounds.1;
    } in
    record {
      width = config.width_bounds;
      height = config.height_bounds;
      update = few;
      next_id = ids;
      seed = omega (arith, config.seed_bounds.1);
      average_slices = config.average_slices_bounds;
      age_limit = config.age_limit_bounds;
      rates = all_fit frame (values_of config).rates _ first
          (recursion_from_All _ _
          (All-filter before (λ (event : EventValue). event_fits frame event ≡ true)
          (event_values config.event) config.event_bounds.fit));
      rules = (config_is config).rules;
      memory_limit = config.memory_limit_bounds;
    }
