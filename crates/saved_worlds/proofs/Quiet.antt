-- Once its events are over, a configuration is as one without events.
use Rattle.std.proofs.Common.{◌≡◌, ℕ, ◌+◌, ◌<◌, ◌≤◌, List, [], ◌∷◌, true, false, map, refl, sym, ap, ◌∙◌, arith, Option, Some, None}
use Rattle.std.specs.Prelude.{filter, fold, nat_le, nat_lt, ◌==◌, ◌&&◌}
use Rattle.saved_worlds.proofs.Prelude.{AllByRecursion, enumerate_from, range_with_len, and_parts, leb-true, nat_tests, recursion_from_All, Config, frame_of, Frame, EventValue, what_fits, event_fits, event_values, values_of, ConfigValues, Occupant, rates_after, rates_at, settings_at, cell_life, life_of, slices_at, slice_at, lives_of, events_at, head_at, config_of_head}
use Rattle.organism.specs.SettingNumbers.{SettingNumbers}
use Rattle.organism.specs.Lived.{life_by}
use Rattle.random_streams.specs.declared.purpose.Purpose.TheVariants.{Run}
use Rattle.random_streams.specs.RandomStream.{draw}

-- each event is of one of the run's updates
abbrev pub HappensInTime : ConfigValues → Type 0
HappensInTime config =
    AllByRecursion (λ (event : EventValue). event.update ≤ config.updates) config.event

-- events that fit are of updates that there are
in_time : (frame : Frame) (events : List EventValue)
    → AllByRecursion (λ (event : EventValue). event_fits frame event ≡ true) events
    → AllByRecursion (λ (event : EventValue). event.update ≤ frame.updates) events
in_time frame [] fit = tt
in_time frame (event ∷ events) fit =
    let first = and_parts (nat_le 1 event.update && nat_le event.update frame.updates)
    (what_fits frame event.what) fit.0 in
    let update = and_parts (nat_le 1 event.update) (nat_le event.update frame.updates) first.0 in
    (leb-true event.update frame.updates update.1, in_time frame events fit.1)

-- so are those of a configuration
pub happens_in_time : (config : Config) → HappensInTime (values_of config)
happens_in_time config =
    in_time (frame_of config.width config.height config.updates config.least_length
    config.greatest_length) (event_values config.event)
    (recursion_from_All _ (event_values config.event) config.event_bounds.fit)

-- the same of each item
pub map_same : {X Y : Type 0} (f g : X → Y) → ((x : X) → f x ≡ g x) → (xs : List X)
    → map f xs ≡ map g xs
map_same f g same [] = refl
map_same f g same (x ∷ xs) = rw (same x, map_same f g same xs) refl

-- events that are over come before an update
all_before : (n u : ℕ) (events : List EventValue)
    → AllByRecursion (λ (event : EventValue). event.update ≤ n) events → n < u
    → filter (λ event. nat_lt event.update u) events ≡ events
all_before n u [] over later = refl
all_before n u (event ∷ events) over later =
    let test : nat_lt event.update u ≡ true = grind (arith, nat_tests, over.0, later) in
    rw (test, all_before n u events over.1 later) refl

-- and none of them is of that update
none_at : (n u from : ℕ) (events : List EventValue)
    → AllByRecursion (λ (event : EventValue). event.update ≤ n) events → n < u
    → filter (λ event. event.1.update == u) (enumerate_from from events) ≡ []
none_at n u from [] over later = refl
none_at n u from (event ∷ events) over later =
    let test : (event.update == u) ≡ false = grind (arith, nat_tests, over.0, later) in
    rw (test, none_at n u (from + 1) events over.1 later) refl

module _ (config : ConfigValues) (over : HappensInTime config) where
  -- no event is left
  pub no_events : (u : ℕ) → config.updates < u → events_at config u ≡ []
  unfolding events_at
  no_events u later = none_at config.updates u 1 config.event over later

  -- the rates stay
  pub rates_stay : (u v : ℕ) → config.updates < u → config.updates < v
      → rates_at config u ≡ rates_at config v
  unfolding rates_at
  rates_stay u v later after =
      ap (fold rates_after config.rates)
      (all_before config.updates u config.event over later
      ∙ sym (all_before config.updates v config.event over after))

  module _ (update id : ℕ) (ended : config.updates ≤ update) where
    -- the rates of its head hold in every update
    own_rates : (u : ℕ) → rates_at (config_of_head (head_at config update id)) u
        ≡ rates_at config (update + 1)
    unfolding rates_at
    own_rates u = refl

    -- a life's settings are the same
    pub settings_same : (u : ℕ) → config.updates < u
        → settings_at (config_of_head (head_at config update id)) u ≡ settings_at config u
    unfolding settings_at
    settings_same u later =
        let rates = own_rates u ∙ rates_stay (update + 1) u (omega (arith, ended)) later in
        rw rates refl

    -- the life of a cell is the same
    life_same : (u cell steps : ℕ) (slot : Option Occupant) → config.updates < u
        → life_of (config_of_head (head_at config update id)) u cell steps slot
        ≡ life_of config u cell steps slot
    unfolding life_of
    life_same u cell steps None later = refl
    life_same u cell steps (Some o) later =
        ap (λ (s : SettingNumbers).
        cell_life o.id (life_by s (draw config.seed u cell Run) steps (Some o.organism)))
        (settings_same u later)

    -- and so are all lives
    pub lives_same : (u : ℕ) (cells : List (Option Occupant)) → config.updates < u
        → lives_of (config_of_head (head_at config update id)) u cells ≡ lives_of config u cells
    unfolding lives_of slices_at
    lives_same u cells later =
        map_same _ _ (λ cell. life_same u cell (slice_at config cells cell) _ later)
        (range_with_len 0 _)
