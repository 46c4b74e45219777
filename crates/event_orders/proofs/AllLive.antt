-- All cells live as an update starts, and nothing else happens.
use Rattle.std.proofs.Common.{◌≡◌, ℕ, zero, suc, ◌+◌, ◌<◌, ◌≤◌, false, length, Some, refl, sym, ap, arith, add-zero}
use Rattle.std.specs.Prelude.{IsSome, IsNone}
use Rattle.event_orders.proofs.Prelude.{ConfigValues, World, Run, State, life_in, state_after_event}
use Rattle.event_orders.proofs.Results.{AreLives, result_kept}
use Rattle.event_orders.proofs.Going.{at_either, Any, Goes, goes_one, goes_on, goes_none}

module _ (config : ConfigValues) where
  -- the cells below a have lived, and nothing else has happened since s
  pub record Lived (a : ℕ) (s t : State) : Type 0 where
    pub ran : (c : ℕ) → c < a → IsSome (t.results c)
    pub idle : (c : ℕ) → a ≤ c → IsNone (t.results c)
    pub lives : AreLives config t.world t.results
    pub world : t.world ≡ s.world
    pub history : t.history ≡ s.history
    pub none : (c k : ℕ) → t.interned c k ≡ false

  -- one more cell has lived
  lived_next : (a : ℕ) (s t : State) → a < length t.world.cells → Lived a s t
      → Lived (a + 1) s (state_after_event config t (Run a))
  lived_next a s t within h = record {
    ran = λ c l. at_either IsSome t.results a c (Some (life_in config t.world a)) (λ e. refl)
        (λ n. h.ran c (omega (arith, n)));
    idle = λ c l. at_either IsNone t.results a c (Some (life_in config t.world a))
        (λ e. absurd (omega arith)) (λ n. h.idle c (omega arith));
    lives = result_kept config t.world t.results a within h.lives;
    world = h.world;
    history = h.history;
    none = h.none;
  }

  -- all cells from a on live
  pub all_live : (d a : ℕ) (s t : State) → Lived a s t → a + d ≡ length t.world.cells → (u : State)
      × Goes config Any t 0 u × Lived (length s.world.cells) s u
  all_live zero a s t h e = (t, goes_none config Any t, rw (ap (λ (w : World). length w.cells) (sym h.world), ← e, add-zero) h)
  all_live (suc d) a s t h e =
      let within : a < length t.world.cells = omega arith in
      let t1 = state_after_event config t (Run a) in
      let one = goes_one config Any t (Run a) (within, h.idle a (omega arith)) tt in
      let rest = all_live d (a + 1) s t1 (lived_next a s t within h) (omega arith) in
      (rest.0, goes_on config Any t t1 rest.0 0 0 one rest.1, rest.2)
