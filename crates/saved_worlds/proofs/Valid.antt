-- A state that can go on still can one update later.
use Rattle.std.proofs.Common.{◌≡◌, ◌∙◌, sym, ap, subst, ℕ, zero, suc, ◌+◌, ◌-◌, ◌*◌, ◌<◌, ◌≤◌, ◌^◌, Option, Some, List, length, replicate, arith}
use Rattle.std.specs.Prelude.{slice_get}
use Rattle.saved_worlds.proofs.Prelude.{length-replicate, RateNumbers, IsWithin, OrganismState, EventValue, ConfigValues, rates_at, next_world, Occupant, World, HaveOwnIds, IsInRange, StandInRange, StayInRange, HeadValues, config_of_head, forgotten, next_state, saved_state_after, world_of_state, SavedState, head_at, state_of_world, CanGoOn, FitsText, HasRoomFor, IsHeadUpTo}
use Rattle.std.proofs.Math.Nat.{mul-le-mul}
use Rattle.instruction_set.specs.declared.letter.Letter.{Letter}
use Rattle.instruction_set.specs.declared.letter.Letter.TheVariants.{NopA}
use Rattle.world_laws.specs.Bounds.{IsConfig}
use Rattle.saved_worlds.proofs.Resumes.{next_state_is}
use Rattle.world_rules.proofs.Updates.{next_update}

-- a state with a next id of at most this and organisms younger than this
pub record Stands (ids ages : ℕ) (state : SavedState) : Type 0 where
  pub head : IsHeadUpTo ids state.head
  pub stand : StandInRange (config_of_head state.head) ages (world_of_state state)

-- another update and next id, where this one is allowed
head_to : (head : HeadValues) (ids more update next_id : ℕ) → update ≤ 1000000
    → IsWithin 1 more next_id → IsHeadUpTo ids head
    → IsHeadUpTo more (record head { update = update; next_id = next_id })
head_to head ids more update next_id early few is = record {
  width = is.width;
  height = is.height;
  update = early;
  next_id = few;
  seed = is.seed;
  average_slices = is.average_slices;
  age_limit = is.age_limit;
  rates = is.rates;
  rules = is.rules;
  memory_limit = is.memory_limit;
}

-- a greater next id is allowed too
pub head_up : (ids more : ℕ) (state : SavedState) → state.head.next_id ≤ more
    → IsHeadUpTo ids state.head → IsHeadUpTo more state.head
head_up ids more state few is =
    head_to state.head ids more _ _ is.update (is.next_id.0, few) is

-- an organism of another greatest age, in a world with other rates, another ancestor and other
-- events
range_to : (config : ConfigValues) (updates founder : ℕ) (rates : RateNumbers)
    (ancestor : List Letter) (event : List EventValue) (ages more : ℕ) (o : OrganismState)
    → o.age < more
    → IsInRange config ages o
    → IsInRange (record config {
      updates = updates;
      founder_cell = founder;
      rates = rates;
      ancestor = ancestor;
      event = event;
    }) more o
range_to config updates founder rates ancestor event ages more o young is = record {
  least = is.least;
  greatest = is.greatest;
  age = young;
  young = is.young;
  limit = is.limit;
  credited = is.credited;
  gestation = is.gestation;
  inputs = is.inputs;
}

-- so it is with all
pub stand_to : (config : ConfigValues) (ages more : ℕ) (w : World)
    → ((cell : ℕ) (o : Occupant) → slice_get w.cells cell ≡ Some (Some o) → o.organism.age < more)
    → StandInRange config ages w → StandInRange config more w
stand_to config ages more w young is = record {
  cells = is.cells;
  sound = is.sound;
  each = λ cell o h. range_to config _ _ _ _ _ ages more o.organism (young cell o h) (is.each cell o h);
  own = is.own;
}

-- as many forgotten organisms as there were have as many ids
own_forgotten : (cells : List (Option Occupant)) (count : ℕ) → HaveOwnIds cells count
    → HaveOwnIds cells (length (replicate count forgotten))
own_forgotten cells count is = record {
  given = λ cell o h. omega (arith, is.given cell o h, length-replicate count forgotten);
  apart = is.apart;
}

-- who stand in range in a world do so in its state
pub state_stands : (config : ConfigValues) (w : World) (ages : ℕ) → StandInRange config ages w
    → StandInRange (config_of_head (head_at config w.update (length w.everyone))) ages
    (world_of_state (state_of_world config w))
state_stands config w ages is = record {
  cells = is.cells;
  sound = is.sound;
  each = λ cell o h. let range = is.each cell o h in
      range_to config _ _ _ _ _ ages ages o.organism range.age range;
  own = own_forgotten w.cells (length w.everyone) is.own;
}

-- organisms in range stay so in each update
abbrev pub RangesAreKept : Type 0
RangesAreKept = (config : ConfigValues) (ages : ℕ) (w : World) → IsConfig config
    → StandInRange config ages w → StayInRange config ages w (next_world config w)

module _ (kept : RangesAreKept) (ids ages : ℕ) (state : SavedState) (is : Stands ids ages state)
  where
    -- what the head goes on with, and an ancestor of any letters
    abbrev config : ConfigValues
    config = record (config_of_head state.head) { ancestor = replicate state.head.rules.least NopA }

    -- the world that the state goes on from
    abbrev w : World
    w = world_of_state state

    -- the values are within their bounds
    config_fits : IsConfig config
    config_fits =
        let head = is.head in
        let long = length-replicate state.head.rules.least NopA in
        let some : 1 ≤ state.head.width * state.head.height =
        mul-le-mul head.width.0 head.height.0 in
        record {
          columns = head.width.0;
          few_columns = head.width.1;
          rows = head.height.0;
          few_rows = head.height.1;
          founder = omega (arith, some);
          average = head.average_slices.1;
          some_age = head.age_limit.0;
          rules = head.rules;
          room = head.memory_limit.0;
          greatest = head.memory_limit.1;
          long_enough = omega (arith, long);
          short_enough = omega (arith, long, head.rules.ordered);
          few_events = omega arith;
          events = tt;
        }

    -- the state is that of this world
    is_state : state_of_world config w ≡ state
    unfolding rates_at
    is_state =
        let made : ℕ → SavedState = λ n.
        record { head = record state.head { next_id = n }; cells = state.cells } in
        ap made (length-replicate state.head.next_id forgotten)

    -- who stand in its cells are in range
    range_here : StandInRange config ages w
    range_here = record {
      cells = is.stand.cells;
      sound = is.stand.sound;
      each = λ cell o h. let range = is.stand.each cell o h in
          range_to (config_of_head state.head) _ _ _ _ _ ages ages o.organism range.age range;
      own = is.stand.own;
    }

    -- one update later
    stands_made : state.head.update < 1000000
        → Stands (ids + 65537000) (ages + 65536000) (state_of_world config (next_world config w))
    unfolding rates_at
    stands_made early =
        let stay = kept config ages w config_fits range_here in
        let given = length-replicate state.head.next_id forgotten in
        record {
          head = head_to state.head ids (ids + 65537000) _ _ (omega (arith, stay.update, early)) (
            omega (arith, stay.grown, given, is.head.next_id.0),
            omega (arith, stay.few, given, is.head.next_id.1),
          ) is.head;
          stand = state_stands config (next_world config w) (ages + 65536000) stay.stand;
        }

    -- so it is in the next state
    pub stands_next : state.head.update < 1000000
        → Stands (ids + 65537000) (ages + 65536000) (next_state state)
    stands_next early =
        let next : next_state state ≡ state_of_world config (next_world config w) =
        ap next_state (sym is_state) ∙ next_state_is config tt w (omega arith) in
        subst (Stands (ids + 65537000) (ages + 65536000)) (sym next) (stands_made early)

-- a state's update is one more in the next
pub next_state_update : (state : SavedState)
    → (next_state state).head.update ≡ state.head.update + 1
unfolding next_state
next_state_update state = next_update (config_of_head state.head) (world_of_state state)

-- and as many more after so many updates
pub update_after : (state : SavedState) (more : ℕ)
    → (saved_state_after state more).head.update ≡ state.head.update + more
unfolding saved_state_after
update_after state zero = omega arith
update_after state (suc more) =
    omega (arith, next_state_update (saved_state_after state more), update_after state more)

module _ (kept : RangesAreKept) where
  -- after so many updates
  stands_after : (ids ages : ℕ) (state : SavedState) (more : ℕ) → Stands ids ages state
      → state.head.update + more ≤ 1000000
      → Stands (ids + 65537000 * more) (ages + 65536000 * more) (saved_state_after state more)
  unfolding saved_state_after
  stands_after ids ages state zero is early =
      let same_ids : ids ≡ ids + 65537000 * zero = omega arith in
      let same_ages : ages ≡ ages + 65536000 * zero = omega arith in
      subst (λ (n : ℕ). Stands n (ages + 65536000 * zero) state) same_ids
      (subst (λ (n : ℕ). Stands ids n state) same_ages is)
  stands_after ids ages state (suc more) is early =
      let before = saved_state_after state more in
      let next = stands_next kept (ids + 65537000 * more) (ages + 65536000 * more) before
      (stands_after ids ages state more is (omega (arith, early)))
      (omega (arith, update_after state more, early)) in
      let last_ids : ids + 65537000 * more + 65537000 ≡ ids + 65537000 * suc more = omega arith in
      let last_ages : ages + 65536000 * more + 65536000 ≡ ages + 65536000 * suc more =
      omega arith in
      subst (λ (n : ℕ). Stands n (ages + 65536000 * suc more) (next_state before)) last_ids
      (subst (λ (n : ℕ). Stands (ids + 65537000 * more + 65537000) n (next_state before)) last_ages
      next)

  -- a state that can go on still can
  pub can_after : (state : SavedState) (more : ℕ) → CanGoOn state
      → state.head.update + more ≤ 1000000 → CanGoOn (saved_state_after state more)
  can_after state more can early =
      let u = state.head.update in
      let after = saved_state_after state more in
      let ids = 2 ^ 62 + 2 ^ 32 * u + 65537000 * more in
      let ages = 2 ^ 48 + 2 ^ 27 * u + 65536000 * more in
      let is = stands_after (2 ^ 62 + 2 ^ 32 * u) (2 ^ 48 + 2 ^ 27 * u) state more
      (record { head = can.head; stand = can.stand }) early in
      let update = update_after state more in
      record {
        head = head_up ids (2 ^ 62 + 2 ^ 32 * after.head.update) after
            (omega (arith, is.head.next_id.1, update)) is.head;
        stand = stand_to (config_of_head after.head) ages (2 ^ 48 + 2 ^ 27 * after.head.update)
            (world_of_state after)
            (λ cell o h. omega (arith, (is.stand.each cell o h).age, update)) is.stand;
      }

  -- and one update later
  pub can_next : (state : SavedState) → CanGoOn state → state.head.update < 1000000
      → CanGoOn (next_state state)
  unfolding saved_state_after
  can_next state can early = can_after state 1 can (omega (arith, early))

  -- where it has room for the updates, its text has the form of a saved world
  pub fits_after : (state : SavedState) (more : ℕ) → CanGoOn state
      → state.head.update + more ≤ 1000000 → HasRoomFor state more
      → FitsText (saved_state_after state more)
  fits_after state more can early room =
      let ids = 2 ^ 62 - 65537000 * more in
      let ages = 2 ^ 48 - 65536000 * more in
      let is = stands_after ids ages state more (record {
        head = head_up (2 ^ 62 + 2 ^ 32 * state.head.update) ids state
            (omega (arith, room.next_id)) can.head;
        stand = stand_to (config_of_head state.head) (2 ^ 48 + 2 ^ 27 * state.head.update) ages
            (world_of_state state) (λ cell o h. omega (arith, room.ages cell o h)) can.stand;
      }) early in
      record {
        next_id = omega (arith, is.head.next_id.1, room.next_id);
        ages = λ cell o h. omega (arith, (is.stand.each cell o h).age, early);
      }
