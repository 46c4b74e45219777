-- Lawful events, one after another.
use Rattle.std.proofs.Common.{◌≡◌, ℕ, zero, suc, ◌+◌, cond, List, [], ◌∷◌, ◌++◌, take, Some, refl, sym, subst, ap, ◌∙◌, zero-add, inl, inr}
use Rattle.std.specs.Prelude.{slice_get, count_by, fold}
use Rattle.event_orders.proofs.Prelude.{eqb_tells, sum_by-append, none-some, same_Some, fold-append, ConfigValues, ScheduleEvent, State, with_value_at, IsLawful, state_after_event, is_gather}

-- what holds of the value given to one place, and elsewhere of the value there, holds at each place
pub at_either : {X : Type 0} (P : X → Type 0) (f : ℕ → X) (k j : ℕ) (x : X) → (j ≡ k → P x)
    → ((j ≡ k → ⊥) → P (f j)) → P (with_value_at f k x j)
at_either P f k j x here there =
    elim (eqb_tells j k) [ inl is ↦ rw is.0 (here is.1) | inr other ↦ rw other.0 (there other.1) ]

-- the value at the place that was given another
pub at_same : {X : Type 0} (f : ℕ → X) (k j : ℕ) (x : X) → j ≡ k → with_value_at f k x j ≡ x
at_same f k j x e = at_either (λ y. y ≡ x) f k j x (λ same. refl) (λ other. absurd (other e))

-- any event
abbrev pub Any : ScheduleEvent → Type 0
Any e = Unit {0}

-- events that are lawful one after another, each of which is such an event
module _ (config : ConfigValues) (Is : ScheduleEvent → Type 0) where
  -- the state that these events lead to
  abbrev pub from : State → List ScheduleEvent → State
  from s events = fold (state_after_event config) s events

  -- each event is lawful after those before it
  abbrev pub AllLawful : State → List ScheduleEvent → Type 0
  AllLawful s [] = Unit {0}
  AllLawful s (e ∷ es) = (IsLawful config s e × Is e) × AllLawful (state_after_event config s e) es

  -- events that are lawful after lawful ones
  pub AllLawful-append : (s : State) (es fs : List ScheduleEvent) → AllLawful s es
      → AllLawful (from s es) fs → AllLawful s (es ++ fs)
  AllLawful-append s [] fs a b = b
  AllLawful-append s (e ∷ es) fs a b =
      (a.0, AllLawful-append (state_after_event config s e) es fs a.1 b)

  -- the same by place
  pub lawful_at : (s : State) (es : List ScheduleEvent) → AllLawful s es
      → (n : ℕ) (e : ScheduleEvent) → slice_get es n ≡ Some e
      → IsLawful config (from s (take n es)) e × Is e
  lawful_at s [] a n e at = absurd (none-some e at)
  lawful_at s (f ∷ es) a zero e at = subst (λ e. IsLawful config s e × Is e) (same_Some f e at) a.0
  lawful_at s (f ∷ es) a (suc n) e at = lawful_at (state_after_event config s f) es a.1 n e at

  -- and back
  pub all_lawful : (s : State) (es : List ScheduleEvent)
      → ((n : ℕ) (e : ScheduleEvent) → slice_get es n ≡ Some e
      → IsLawful config (from s (take n es)) e × Is e) → AllLawful s es
  all_lawful s [] h = tt
  all_lawful s (f ∷ es) h =
      (h 0 f refl, all_lawful (state_after_event config s f) es (λ n e at. h (suc n) e at))

  -- lawful events with so many ends of updates lead from s to t
  abbrev pub Goes : State → ℕ → State → Type 0
  Goes s k t =
      (es : List ScheduleEvent) × AllLawful s es × (from s es ≡ t) × (count_by is_gather es ≡ k)

  -- one lawful event
  pub goes_one : (s : State) (e : ScheduleEvent) → IsLawful config s e → Is e
      → Goes s (cond (is_gather e) 1 0) (state_after_event config s e)
  goes_one s e may of = (e ∷ [], ((may, of), tt), refl, zero-add (cond (is_gather e) 1 0))

  -- lawful events, and then others
  pub goes_on : (s t u : State) (k j : ℕ) → Goes s k t → Goes t j u → Goes s (k + j) u
  goes_on s t u k j a b = (
    a.0 ++ b.0,
    AllLawful-append s a.0 b.0 a.1 (subst (λ t. AllLawful t b.0) (sym a.2) b.1),
    fold-append (state_after_event config) s a.0 b.0 ∙ (ap (λ t. from t b.0) a.2 ∙ b.2),
    sum_by-append (λ x. cond (is_gather x) 1 0) a.0 b.0
        ∙ (ap (λ n. n + count_by is_gather b.0) a.3 ∙ ap (λ n. k + n) b.3),
  )

  -- no event
  pub goes_none : (s : State) → Goes s 0 s
  goes_none s = ([], tt, refl, refl)
