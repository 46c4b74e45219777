-- What holds of an organism through its life.
use Rattle.std.proofs.Common.{◌≡◌, refl, sym, ◌∙◌, add-one, ℕ, zero, suc, ◌+◌, ◌-◌, ◌<◌, ◌≤◌, ◌^◌, Option, Some, None, List, [], ◌∷◌, length, Result, Ok, Err, IsOkAnd, arith, length-append}
use Rattle.organism.proofs.Prelude.{All, Letter, DivideAsk, RuleNumbers, AreRules, AreTextsOfChild, IsLengthWithin, child_of, letter_under_ip, Outcome, SettingNumbers, OrganismState, life_step, renewed, OnViable, LifeState, copy_of, after_copy_of, clean_text, written_text, child_range, birth_record, child_letters, newborn_of, after_outcome, after_step, life_state_after, dies_at, death_in, ended, life, IsSoundOrganism, IsBornOf, beginning, HasLived}
use Rattle.std.proofs.lemmas.List.Elements.{All-nil, All-push}
use Rattle.mutations.specs.declared.stop.ApplyStop.{ApplyStop}
use Rattle.virtual_cpu.proofs.WordLemmas.{found-below}
use Rattle.organism.specs.declared.outcome.Outcome.TheVariants as outcome
use Rattle.organism.proofs.BirthLemmas.{child_part-length}
use Rattle.organism.proofs.UpdateLifeLemmas.{state_after-zero, state_after-next}
use Rattle.organism.proofs.SoundLemmas.{LowerLaws, IsAsked, Told, stepped, AsksWithin, within, divide_merit, born_anew}
use Rattle.std.specs.Result.{result_unwrap_or}

-- the letters of a record that applies
made-letters : (P : List Letter → Type 0) (made : Result (List Letter) ApplyStop) → IsOkAnd made P
    → (made ≡ Ok (result_unwrap_or made [])) × P (result_unwrap_or made [])
made-letters P (Ok letters) holds = (refl, holds)
made-letters P (Err stop) holds = absurd holds

-- the newborn of a divide
newborn : LowerLaws → (settings : SettingNumbers) (words : ℕ → ℕ) → ((n : ℕ) → words n < 2 ^ 32)
    → (s : LifeState) (ask : DivideAsk) → IsSoundOrganism s.organism
    → IsAsked settings.rules s.organism ask
    → IsBornOf s.organism.genome settings.rules (newborn_of settings words s ask)
unfolding birth_record child_letters
newborn laws settings words fits s ask h asked =
    let o : OrganismState = s.organism in
    let rules : RuleNumbers = settings.rules in
    let w : AsksWithin rules o ask = within rules o ask h asked in
    let clean : length (clean_text o ask) ≡ ask.end - ask.read =
    child_part-length o.machine.clean ask.read ask.end
    (omega (arith, w.end_within, h.machine.clean)) in
    let written : length (written_text o ask) ≡ ask.end - ask.read =
    child_part-length o.machine.memory ask.read ask.end w.end_within in
    let texts : AreTextsOfChild (child_range rules) (clean_text o ask) (written_text o ask) =
    record {
      one_length = clean ∙ sym written;
      within = record {
        least = omega (arith, written, w.child_least);
        greatest = omega (arith, written, w.child_most);
      };
    } in
    let made = made-letters (IsLengthWithin (child_range rules))
    (child_of o.genome (birth_record settings words s.next o ask))
    (laws.applies words s.next settings.rates (child_range rules) (clean_text o ask)
    (written_text o ask) o.genome fits asked.lawful.long_enough asked.lawful.short_enough texts) in
    record {
      child = made.0;
      form = laws.form words s.next settings.rates (child_range rules) (clean_text o ask)
          (written_text o ask) o.genome fits asked.lawful.long_enough asked.lawful.short_enough
          texts;
      least = made.1.least;
      greatest = made.1.greatest;
      some_merit = divide_merit laws rules o ask h asked;
      merit = laws.bounded (length o.genome) ask.executed ask.copied o.gestation h.genome.greatest;
    }

-- one more step of a life
pub record Continues (settings : SettingNumbers) (s next : LifeState) : Type 0 where
  pub sound : IsSoundOrganism next.organism
  pub genome : next.organism.genome ≡ s.organism.genome
  pub inputs : next.organism.inputs ≡ s.organism.inputs
  pub age : next.organism.age ≤ s.organism.age
  pub few : length next.newborns ≤ length s.newborns + 1
  pub newborns : All (IsBornOf s.organism.genome settings.rules) s.newborns
      → All (IsBornOf s.organism.genome settings.rules) next.newborns

-- a life that stays the same goes on, with no newborn more
unchanged : (settings : SettingNumbers) (s : LifeState) → IsSoundOrganism s.organism
    → Continues settings s s
unchanged settings s h =
    record {
      sound = h;
      genome = refl;
      inputs = refl;
      age = omega arith;
      few = omega arith;
      newborns = λ all. all;
    }

-- a viable divide goes on with a sound parent, and with one newborn more
divided : LowerLaws → (settings : SettingNumbers) (words : ℕ → ℕ) → ((n : ℕ) → words n < 2 ^ 32)
    → (s : LifeState) (ask : DivideAsk) → IsSoundOrganism s.organism
    → IsAsked settings.rules s.organism ask
    → Continues settings s (after_outcome settings words s (outcome.Viable ask))
unfolding renewed
divided laws settings words fits s ask h asked = record {
  sound = born_anew laws settings.rules s.organism ask h asked;
  genome = refl;
  inputs = refl;
  age = omega arith;
  few = omega (arith, length-append s.newborns (newborn_of settings words s ask ∷ []));
  newborns = λ all. All-push (IsBornOf s.organism.genome settings.rules) s.newborns
      (newborn_of settings words s ask) all (newborn laws settings words fits s ask h asked);
}

-- a life goes on after any outcome, where a viable divide is one of this organism
concluded : LowerLaws → (settings : SettingNumbers) (words : ℕ → ℕ) → ((n : ℕ) → words n < 2 ^ 32)
    → (s : LifeState) (told : Outcome) → IsSoundOrganism s.organism
    → OnViable told (IsAsked settings.rules s.organism)
    → Continues settings s (after_outcome settings words s told)
concluded laws settings words fits s (outcome.Viable ask) h asked =
    divided laws settings words fits s ask h asked
concluded laws settings words fits s _ h asked = unchanged settings s h

-- a life that goes on by a step
lived-next : LowerLaws → (settings : SettingNumbers) → AreRules settings.rules → (words : ℕ → ℕ)
    → ((n : ℕ) → words n < 2 ^ 32) → (start : OrganismState) (steps : ℕ) (s : LifeState)
    → HasLived settings start steps s
    → HasLived settings start (steps + 1) (after_step settings words s)
unfolding after_step
lived-next laws settings are words fits start steps s h =
    let copy : Option Letter = copy_of (letter_under_ip s.organism.machine) words settings.rates.copy s.next in
    let told : Told settings.rules (record s.organism { age = s.organism.age + 1 })
    (life_step s.organism copy settings.rules) =
    stepped laws settings.rules are s.organism copy h.sound in
    let between : LifeState =
    record s {
      organism = (life_step s.organism copy settings.rules).0;
      next = after_copy_of (letter_under_ip s.organism.machine) words settings.rates.copy s.next;
    } in
    let more : Continues settings between
    (after_outcome settings words between (life_step s.organism copy settings.rules).1) =
    concluded laws settings words fits between (life_step s.organism copy settings.rules).1
    told.sound told.asked in
    let genome : between.organism.genome ≡ start.genome = told.genome ∙ h.genome in
    record {
      sound = more.sound;
      genome = more.genome ∙ genome;
      inputs = more.inputs ∙ told.inputs ∙ h.inputs;
      age = omega (arith, more.age, told.age, h.age);
      few = omega (arith, more.few, h.few);
      newborns = rw genome at (more.newborns (rw genome h.newborns));
    }

-- what holds of a sound organism before its first step
lived-none : (settings : SettingNumbers) (start : OrganismState) → IsSoundOrganism start
    → HasLived settings start 0 (beginning start)
lived-none settings start h = record {
  sound = h;
  genome = refl;
  inputs = refl;
  age = omega arith;
  few = omega arith;
  newborns = All-nil (IsBornOf start.genome settings.rules);
}

-- what holds of a sound organism after so many steps
lived-all : LowerLaws → (settings : SettingNumbers) → AreRules settings.rules → (words : ℕ → ℕ)
    → ((n : ℕ) → words n < 2 ^ 32) → (start : OrganismState) → IsSoundOrganism start → (steps : ℕ)
    → HasLived settings start steps (life_state_after settings words (beginning start) steps)
lived-all laws settings are words fits start h zero =
    rw (state_after-zero settings words (beginning start)) (lived-none settings start h)
lived-all laws settings are words fits start h (suc steps) =
    let next = lived-next laws settings are words fits start steps _
    (lived-all laws settings are words fits start h steps) in
    rw (← state_after-next settings words (beginning start) steps, add-one) at next

-- no life has more than its steps
fewer : (settings : SettingNumbers) (start : OrganismState) (some steps : ℕ) (now : LifeState)
    → some ≤ steps → HasLived settings start some now → HasLived settings start steps now
fewer settings start some steps now le h = record {
  sound = h.sound;
  genome = h.genome;
  inputs = h.inputs;
  age = omega (arith, h.age);
  few = omega (arith, h.few);
  newborns = h.newborns;
}

-- a life ends with all its steps or before
lived-ended : LowerLaws → (settings : SettingNumbers) → AreRules settings.rules → (words : ℕ → ℕ)
    → ((n : ℕ) → words n < 2 ^ 32) → (start : OrganismState) (steps : ℕ) → IsSoundOrganism start
    → (death : Option ℕ) → ((step : ℕ) → death ≡ Some step → step < steps)
    → HasLived settings start steps (ended settings words (beginning start) steps death).0
lived-ended laws settings are words fits start steps h None before =
    lived-all laws settings are words fits start h steps
lived-ended laws settings are words fits start steps h (Some step) before =
    let lt : step < steps = before step refl in
    fewer settings start (step + 1) steps _ (omega arith)
    (lived-all laws settings are words fits start h (step + 1))

-- the law of one life
pub lived : LowerLaws → (settings : SettingNumbers) (words : ℕ → ℕ) (start : OrganismState)
    (steps : ℕ) → AreRules settings.rules → ((n : ℕ) → words n < 2 ^ 32) → IsSoundOrganism start
    → HasLived settings start steps (life settings words (beginning start) steps).0
unfolding life death_in
lived laws settings words start steps are fits h =
    lived-ended laws settings are words fits start steps h
    (death_in settings words (beginning start) steps)
    (λ step found. let lt : step < 0 + steps =
    found-below (dies_at settings words (beginning start)) 0 steps step found in omega arith)
