-- The state of each world of a run can go on, and has the form of a saved world.
use Rattle.std.proofs.Common.{◌+◌, ◌*◌, ◌≤◌, ◌^◌, ℕ, sym, subst, length, arith}
use Rattle.saved_worlds.proofs.Prelude.{Config, values_of, World, world_after, HasFewIds, StandInRange, config_of_head, world_of_state, SavedState, head_at, state_of_world, CanGoOn, FitsText, IsHead}
use Rattle.saved_worlds.proofs.Heads.{head_of_run}
use Rattle.saved_worlds.proofs.Valid.{head_up, stand_to, state_stands}

module _ (config : Config) (n : ℕ) (few : n ≤ 1000000)
    (ids : HasFewIds (values_of config) n (world_after (values_of config) n))
    (stand : StandInRange (values_of config) (1 + 65536000 * n) (world_after (values_of config) n))
  where
    -- the world of the run
    abbrev w : World
    w = world_after (values_of config) n

    -- its state
    abbrev state : SavedState
    state = state_of_world (values_of config) w

    -- the state can go on
    pub run_valid : CanGoOn state
    run_valid =
        let head : IsHead state.head =
        subst (λ (u : ℕ). IsHead (head_at (values_of config) u (length w.everyone)))
        (sym ids.update)
        (head_of_run config n (length w.everyone) few
        (ids.some, omega (arith, ids.few, few))) in
        record {
          head = head_up (2 ^ 62) (2 ^ 62 + 2 ^ 32 * w.update) state
              (omega (arith, head.next_id.1)) head;
          stand = stand_to (config_of_head state.head) (1 + 65536000 * n)
              (2 ^ 48 + 2 ^ 27 * w.update) (world_of_state state)
              (λ cell o h. omega (arith, (stand.each cell o h).age, few))
              (state_stands (values_of config) w (1 + 65536000 * n) stand);
        }

    -- and has the form of a saved world
    pub run_fits : FitsText state
    run_fits = record {
      next_id = omega (arith, ids.few, few);
      ages = λ cell o h. omega (arith, (stand.each cell o h).age, few);
    }
