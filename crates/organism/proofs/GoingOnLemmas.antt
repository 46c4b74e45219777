-- A life that goes on by a step.
use Rattle.std.proofs.Common.{◌∙◌, ◌-◌, ◌<◌, ◌^◌, ◌≡◌, ℕ, ◌+◌, ◌*◌, ◌≤◌, length, arith, ap, sym, subst}
use Rattle.std.specs.Prelude.{◌==◌}
use Rattle.organism.proofs.Prelude.{All, LifeNow, GoesOn, SettingNumbers, OrganismState, is_old, age_of_death}
use Rattle.std.proofs.lemmas.Grind.{common_steps}
use Rattle.organism.specs.Prelude.{letters}
use Rattle.organism.specs.declared.newborn.Newborn.{Newborn}

-- one step more
pub goes_on-more : (settings : SettingNumbers) (steps : ℕ) (start now next : LifeNow)
    → GoesOn settings steps steps (65536 * steps) start now → GoesOn settings 1 1 65536 now next
    → GoesOn settings (steps + 1) (steps + 1) (65536 * (steps + 1)) start next
goes_on-more settings steps start now next so_far more = record {
  age = omega (arith, so_far.age, more.age);
  births = omega (arith, so_far.births, more.births);
  taken = omega (arith, so_far.taken, more.taken);
  genome = more.genome ∙ so_far.genome;
  merit = λ h. more.merit (so_far.merit h);
  merits = λ h. more.merits (so_far.merits h);
  lengths = λ h. more.lengths (so_far.lengths h);
}

-- a step of an organism after which nothing follows
pub goes_on-quiet : (settings : SettingNumbers) (old new : LifeNow)
    → new.organism.age ≡ old.organism.age + 1 → new.organism.merit ≡ old.organism.merit
    → new.organism.genome ≡ old.organism.genome → new.draws.taken ≤ old.draws.taken + 2
    → new.births ≡ old.births → GoesOn settings 1 1 65536 old new
goes_on-quiet settings old new age merit genome words births = record {
  age = omega (arith, age);
  births = omega (arith, ap length births);
  taken = omega (arith, words);
  genome = genome;
  merit = λ h. omega (arith, merit, h);
  merits = λ h. subst (All (λ (child : Newborn). child.merit ≤ 2 ^ 38)) (sym births) h;
  lengths = λ h. subst (All (λ (child : Newborn).
      length (letters child.genome) ≤ settings.rules.greatest)) (sym births) h;
}

-- an organism is old just where it has the age of death that it had at the start
pub old-at : (settings : SettingNumbers) (start now : OrganismState) → now.genome ≡ start.genome
    → now.age < 2 ^ 64 - 1 → (now.age == age_of_death settings start) ≡ is_old settings now
old-at settings start now genome young = rw genome (grind (arith, common_steps))
