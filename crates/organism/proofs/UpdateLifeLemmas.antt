-- Lives, step by step.
use Rattle.std.proofs.Common.{◌≡◌, ℕ, suc, ◌+◌, ◌-◌, ◌<◌, Bool, true, false, cond, Option, Some, arith, refl, sym, ◌∙◌, ap, add-one}
use Rattle.organism.proofs.Prelude.{find, range_with_len, SettingNumbers, Died, LifeState, life_state_after, after_step, is_old, dies_at, death_in, ended, life}

-- before any step
pub state_after-zero : (settings : SettingNumbers) (words : ℕ → ℕ) (start : LifeState)
    → life_state_after settings words start 0 ≡ start
unfolding life_state_after
state_after-zero settings words start = refl

-- after one more step
pub state_after-next : (settings : SettingNumbers) (words : ℕ → ℕ) (start : LifeState) (steps : ℕ)
    → life_state_after settings words start (steps + 1)
    ≡ after_step settings words (life_state_after settings words start steps)
unfolding life_state_after
state_after-next settings words start steps = rw add-one refl

-- the search among the steps from one on
pub find-next : (test : ℕ → Bool) (step n : ℕ) → step < n
    → find test (range_with_len step (n - step))
    ≡ cond (test step) (Some step) (find test (range_with_len (step + 1) (n - (step + 1))))
find-next test step n h = let more : n - step ≡ suc (n - (step + 1)) = omega arith in rw more refl

-- a life that ends with a step
pub life-dies : (settings : SettingNumbers) (words : ℕ → ℕ) (start : LifeState) (steps step : ℕ)
    → death_in settings words start steps ≡ Some step
    → life settings words start steps
    ≡ (life_state_after settings words start (step + 1), Died (step + 1))
unfolding life
life-dies settings words start steps step some = ap (ended settings words start steps) some

-- all steps are left
pub search-all : (settings : SettingNumbers) (words : ℕ → ℕ) (start : LifeState) (n : ℕ)
    → find (dies_at settings words start) (range_with_len 0 (n - 0))
    ≡ death_in settings words start n
unfolding death_in
search-all settings words start n = let all : n - 0 ≡ n = omega arith in rw all refl

-- a step that is not the first death leaves the search to the others
pub search-next : (test : ℕ → Bool) (step n : ℕ) (first : Option ℕ) → step < n
    → find test (range_with_len step (n - step)) ≡ first → test step ≡ false
    → find test (range_with_len (step + 1) (n - (step + 1))) ≡ first
search-next test step n first h left fails =
    let next = find-next test step n h in sym (rw fails at next) ∙ left

-- the first death
pub search-here : (test : ℕ → Bool) (step n : ℕ) (first : Option ℕ) → step < n
    → find test (range_with_len step (n - step)) ≡ first → test step ≡ true → first ≡ Some step
search-here test step n first h left passes =
    let next = find-next test step n h in sym left ∙ (rw passes at next)

-- the state after one more step, by words that are the same
pub state-next : (settings : SettingNumbers) (words same : ℕ → ℕ) (start now next : LifeState)
    (step : ℕ) → now ≡ life_state_after settings words start step → same ≡ words
    → next ≡ after_step settings same now → next ≡ life_state_after settings words start (step + 1)
state-next settings words same start now next step here alike stepped =
    rw (stepped, alike, here, state_after-next settings words start step)

-- whether this state is a death
pub dies-now : (settings : SettingNumbers) (words : ℕ → ℕ) (start next : LifeState) (step : ℕ)
    (old : Bool) → next ≡ life_state_after settings words start (step + 1)
    → old ≡ is_old settings next.organism → dies_at settings words start step ≡ old
dies-now settings words start next step old here is =
    sym (is ∙ ap (λ (s : LifeState). is_old settings s.organism) here)
