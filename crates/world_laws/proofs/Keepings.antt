-- A life keeps the genome, and changes the merit and the credited set by births alone.
use Rattle.std.proofs.Common.{◌≡◌, ◌∙◌, refl, ap, length, Bool, true, ℕ, zero, suc, ◌+◌, List, [], ◌∷◌, ◌++◌, Option, Some, None}
use Rattle.world_laws.proofs.Prelude.{length-set, Letter, RuleNumbers, task_place, Task, letter_under_ip, Outcome, after_did, after_output, life_step, newly_done, older, renewed, with_done, next_input, OrganismState, SettingNumbers, LifeState, after_copy_of, after_outcome, after_step, copy_of, death_in, ended, life, life_state_after, HasKept, step}
use Rattle.virtual_cpu.specs.declared.step_answer.StepAnswer.{StepAnswer}
use Rattle.virtual_cpu.specs.declared.step_answer.StepAnswer.TheVariants.{Output}
use Rattle.organism.specs.declared.outcome.Outcome.TheVariants as outcome

-- what the answer of a machine leaves of an organism: with its limit, its age and how many tasks its
-- gestation has
pub record Lasting : Type 0 where
  pub genome : List Letter
  pub merit : ℕ
  pub credited : List Bool
  pub gestation : ℕ
  pub limit : ℕ
  pub age : ℕ

-- that of an organism
abbrev pub lasting : OrganismState → Lasting
lasting o = record {
  genome = o.genome;
  merit = o.merit;
  credited = o.credited;
  gestation = length o.gestation;
  limit = o.machine.limit;
  age = o.age;
}

-- a task that is newly done, or none, leaves it
done-leaves : (o : OrganismState) (task : Option Task) → lasting (with_done o task).0 ≡ lasting o
done-leaves o None = refl
done-leaves o (Some task) = rw (length-set o.gestation (task_place task) true) refl

-- so does what follows from what the machine tells
did-leaves : (o : OrganismState) (rules : RuleNumbers) (did : StepAnswer)
    → lasting (after_did o rules did).0 ≡ lasting o
unfolding after_output
did-leaves o rules (Output value) =
    done-leaves (record o { read = o.read + 1 }) (newly_done o value)
did-leaves o rules _ = refl

-- so does a step of one that is a step older, before a viable divide renews it
pub step-leaves : (o : OrganismState) (copy : Option Letter) (rules : RuleNumbers)
    → lasting (life_step o copy rules).0 ≡ lasting (older o (step o.machine (next_input o) copy).0)
unfolding life_step
step-leaves o copy rules =
    did-leaves (older o (step o.machine (next_input o) copy).0) rules (step o.machine (next_input o) copy).1

-- a list with one more is not empty
one-more : {X : Type 0} (xs : List X) (x : X) → xs ++ x ∷ [] ≡ [] → ⊥
one-more [] x is = absurd (cc)
one-more (y ∷ ys) x is = absurd (cc)

-- after an outcome too only a birth has changed the merit and the credited set
outcome-kept : (settings : SettingNumbers) (words : ℕ → ℕ) (start now : LifeState) (told : Outcome)
    → HasKept start now → HasKept start (after_outcome settings words now told)
unfolding renewed
outcome-kept settings words start now (outcome.Viable ask) kept = record {
  genome = kept.genome;
  merit = λ none. absurd (one-more now.newborns _ none);
  credited = λ none. absurd (one-more now.newborns _ none);
}
outcome-kept settings words start now _ kept = kept

-- so it is after one more step
more-kept : (settings : SettingNumbers) (words : ℕ → ℕ) (start now : LifeState) → HasKept start now
    → HasKept start (after_step settings words now)
unfolding after_step
more-kept settings words start now kept =
    let copy = copy_of (letter_under_ip now.organism.machine) words settings.rates.copy now.next in
    let stepped = life_step now.organism copy settings.rules in
    let same = step-leaves now.organism copy settings.rules in
    outcome-kept settings words start
    (record now {
      organism = stepped.0;
      next = after_copy_of (letter_under_ip now.organism.machine) words settings.rates.copy now.next;
    }) stepped.1 (record {
      genome = ap (λ (l : Lasting). l.genome) same ∙ kept.genome;
      merit = λ none. ap (λ (l : Lasting). l.merit) same ∙ kept.merit none;
      credited = λ none. ap (λ (l : Lasting). l.credited) same ∙ kept.credited none;
    })

-- so it is after so many steps of a life
pub steps-kept : (settings : SettingNumbers) (words : ℕ → ℕ) (start : LifeState) (steps : ℕ)
    → HasKept start (life_state_after settings words start steps)
unfolding life_state_after
steps-kept settings words start zero =
    record { genome = refl; merit = λ none. refl; credited = λ none. refl }
steps-kept settings words start (suc steps) =
    more-kept settings words start (life_state_after settings words start steps)
    (steps-kept settings words start steps)

-- so it is at the end of a life
pub life-kept : (settings : SettingNumbers) (words : ℕ → ℕ) (start : LifeState) (steps : ℕ)
    → HasKept start (life settings words start steps).0
unfolding life
life-kept settings words start steps = by (death_in settings words start steps) where
  -- with a death at a step, or with none
  by : (death : Option ℕ) → HasKept start (ended settings words start steps death).0
  by None = steps-kept settings words start steps
  by (Some step) = steps-kept settings words start (step + 1)
