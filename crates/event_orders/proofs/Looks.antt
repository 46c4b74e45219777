-- What an observer has seen never falls.
use Rattle.std.proofs.Common.{◌≡◌, ◌-◌, ℕ, zero, suc, ◌+◌, ◌<◌, ◌≤◌, List, length, get_or, refl, ap, ◌∙◌, arith, add-zero}
use Rattle.std.specs.Prelude.{max}
use Rattle.event_orders.proofs.Prelude.{slice_get_within, slice_get-get_or, ConfigValues, ScheduleEvent, Run, Intern, Gather, Publish, Look, Hear, State, with_value_at, state_after_event, IsSchedule, LooksNeverFall}
use Rattle.event_orders.proofs.Between.{at_place, state_with}
use Rattle.event_orders.proofs.Going.{at_same, at_either}

module _ (config : ConfigValues) (events : List ScheduleEvent) where
  -- the greatest number that an observer has seen before a place
  abbrev seen_at : ℕ → ℕ → ℕ
  seen_at n observer = (at_place config events n).seen observer

  -- a look or a note leaves each observer at least where it was
  with_seen_kept : (seen : ℕ → ℕ) (observer number o : ℕ)
      → seen o ≤ with_value_at seen observer (max (seen observer) number) o
  with_seen_kept seen observer number o =
      at_either (λ (m : ℕ). seen o ≤ m) seen observer o (max (seen observer) number)
      (λ e. let is : seen o ≡ seen observer = ap seen e in omega arith) (λ n. omega arith)

  -- what an observer has seen never falls
  seen_kept : (s : State) (e : ScheduleEvent) (o : ℕ)
      → s.seen o ≤ (state_after_event config s e).seen o
  seen_kept s (Run cell) o = omega arith
  seen_kept s (Intern seat cell nth) o = omega arith
  seen_kept s (Gather seat) o = omega arith
  seen_kept s Publish o = omega arith
  seen_kept s (Look observer number) o = with_seen_kept s.seen observer number o
  seen_kept s (Hear observer number) o = with_seen_kept s.seen observer number o

  -- nor does it over several events
  seen_later : (m d o : ℕ) → m + d ≤ length events → seen_at m o ≤ seen_at (m + d) o
  seen_later m zero o l = rw add-zero (omega arith)
  seen_later m (suc d) o l =
      let e = get_or events (m + d) Publish in
      let more = seen_kept (at_place config events (m + d)) e o in
      let rest = seen_later m d o (omega arith) in
      let place : m + suc d ≡ m + d + 1 = omega arith in
      let same =
      state_with config events (m + d) e (slice_get-get_or events (m + d) Publish (omega arith)) in
      rw place (omega (arith, rest, more, ap (λ (t : State). t.seen o) same))

  -- no observer looks at a lower number than before
  pub looks_never_fall : IsSchedule config events → LooksNeverFall events
  looks_never_fall lawful m n observer i j below at later =
      let l : n < length events = slice_get_within events n (Look observer j) later in
      let may = lawful n (Look observer j) later in
      let s = at_place config events m in
      let same = ap (λ (t : State). t.seen observer) (state_with config events m (Look observer i) at)
      ∙ at_same s.seen observer observer (max (s.seen observer) i) refl in
      let place : m + 1 + (n - (m + 1)) ≡ n = omega arith in
      let rest = rw place at (seen_later (m + 1) (n - (m + 1)) observer (omega arith)) in
      let bound : seen_at n observer ≤ j = may.1 in
      omega arith
