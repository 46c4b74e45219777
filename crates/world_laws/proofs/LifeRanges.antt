-- A life keeps the limit and the sets of an organism, and ends before the age of death or with it.
use Rattle.std.proofs.Common.{◌≡◌, ◌⊎◌, inl, inr, ◌∙◌, refl, ap, ℕ, ℤ, zero, suc, ◌+◌, ◌*◌, ◌<◌, ◌≤◌, Bool, true, false, [], ◌∷◌, length, Option, Some, None, arith, add-one}
use Rattle.std.specs.Prelude.{find}
use Rattle.world_laws.proofs.Prelude.{AllByRecursion, range_with_len, cases_Bool, cases_eq, eq-eqb, length-replicate, Letter, Machine, letter_under_ip, KeepsLimits, step, Outcome, life_step, next_input, older, renewed, NewbornValue, OrganismState, SettingNumbers, LifeState, after_copy_of, after_outcome, after_step, copy_of, death_in, dies_at, ended, is_death, is_old, life, life_state_after, newborn_of, all_append}
use Rattle.organism.specs.declared.outcome.Outcome.TheVariants as outcome
use Rattle.organism.specs.declared.ran.Ran.{Ran}
use Rattle.world_laws.proofs.Keepings.{Lasting, step-leaves, steps-kept}

-- no step changes the limit of a machine
abbrev pub KeepLimits : Type 0
KeepLimits = (m : Machine) (input : ℤ) (copy : Option Letter) → KeepsLimits m (step m input copy).0

-- an organism under a limit, with two sets of nine tasks
pub record HasNine (bound : ℕ) (o : OrganismState) : Type 0 where
  pub limit : o.machine.limit ≡ bound
  pub credited : length o.credited ≡ 9
  pub gestation : length o.gestation ≡ 9

-- a newborn has a set of nine tasks
abbrev pub BringsNine : NewbornValue → Type 0
BringsNine newborn = length newborn.credited ≡ 9

-- an organism in its life, and its newborns so far
pub record LivesWithNine (bound : ℕ) (s : LifeState) : Type 0 where
  pub organism : HasNine bound s.organism
  pub newborns : AllByRecursion BringsNine s.newborns

-- an outcome leaves the limit and sets of nine tasks, in the newborns too
outcome-nine : (settings : SettingNumbers) (words : ℕ → ℕ) (limit : ℕ) (s : LifeState)
    (told : Outcome) → LivesWithNine limit s
    → LivesWithNine limit (after_outcome settings words s told)
unfolding renewed
outcome-nine settings words limit s (outcome.Viable ask) has = record {
  organism = record {
    limit = has.organism.limit;
    credited = has.organism.gestation;
    gestation = length-replicate 9 false;
  };
  newborns = all_append BringsNine s.newborns (newborn_of settings words s ask ∷ [])
      has.newborns (has.organism.gestation, tt);
}
outcome-nine settings words limit s _ has = has

-- an outcome leaves the age, or begins it anew
outcome-age : (settings : SettingNumbers) (words : ℕ → ℕ) (s : LifeState) (told : Outcome)
    → ((after_outcome settings words s told).organism.age ≡ s.organism.age)
    ⊎ ((after_outcome settings words s told).organism.age ≡ 0)
unfolding renewed
outcome-age settings words s (outcome.Viable ask) = inr refl
outcome-age settings words s _ = inl refl

module _ (keep : KeepLimits) (settings : SettingNumbers) (words : ℕ → ℕ) where
  -- one more step leaves the limit and sets of nine tasks
  more-nine : (limit : ℕ) (s : LifeState) → LivesWithNine limit s
      → LivesWithNine limit (after_step settings words s)
  unfolding after_step
  more-nine limit s has =
      let copy = copy_of (letter_under_ip s.organism.machine) words settings.rates.copy s.next in
      let stepped = life_step s.organism copy settings.rules in
      let next = after_copy_of (letter_under_ip s.organism.machine) words settings.rates.copy s.next in
      let same = step-leaves s.organism copy settings.rules in
      outcome-nine settings words limit (record s { organism = stepped.0; next = next }) stepped.1
      (record {
        organism = record {
          limit = ap (λ (l : Lasting). l.limit) same
              ∙ (keep s.organism.machine (next_input s.organism) copy).limit ∙ has.organism.limit;
          credited = ap (λ (l : Lasting). length l.credited) same ∙ has.organism.credited;
          gestation = ap (λ (l : Lasting). l.gestation) same ∙ has.organism.gestation;
        };
        newborns = has.newborns;
      })

  -- it makes the age one more, or begins it anew
  more-age : (s : LifeState)
      → ((after_step settings words s).organism.age ≡ s.organism.age + 1)
      ⊎ ((after_step settings words s).organism.age ≡ 0)
  unfolding after_step
  more-age s =
      let copy = copy_of (letter_under_ip s.organism.machine) words settings.rates.copy s.next in
      let stepped = life_step s.organism copy settings.rules in
      let next = after_copy_of (letter_under_ip s.organism.machine) words settings.rates.copy s.next in
      let between : LifeState = record s { organism = stepped.0; next = next } in
      let told = step-leaves s.organism copy settings.rules in
      elim (outcome-age settings words between stepped.1) [
        | inl same ↦ inl (same ∙ ap (λ (l : Lasting). l.age) told)
        | inr anew ↦ inr anew
      ]

  -- so many steps leave the limit and sets of nine tasks
  steps-nine : (limit : ℕ) (start : LifeState) (steps : ℕ) → LivesWithNine limit start
      → LivesWithNine limit (life_state_after settings words start steps)
  unfolding life_state_after
  steps-nine limit start zero has = has
  steps-nine limit start (suc steps) has =
      more-nine limit (life_state_after settings words start steps)
      (steps-nine limit start steps has)

  -- the age at which an organism dies
  abbrev last-age : LifeState → ℕ
  last-age start = settings.age_limit * length start.organism.genome

  -- where a step is no death, its age is another
  other-age : (o : OrganismState) (genome : ℕ) → length o.genome ≡ genome
      → settings.death ≡ true → is_old settings o ≡ false
      → o.age ≡ settings.age_limit * genome → ⊥
  other-age o genome same death alive at =
      let old : is_old settings o ≡ true =
      rw (death, same) (eq-eqb o.age (settings.age_limit * genome) at) in absurd cc

  -- before the age of death, and with no death so far, it is still before it
  steps-young : (start : LifeState) (steps : ℕ)
      → ((step : ℕ) → step < steps → dies_at settings words start step ≡ false)
      → settings.death ≡ true → start.organism.age < last-age start
      → (life_state_after settings words start steps).organism.age < last-age start
  unfolding life_state_after
  steps-young start zero alive death young = young
  steps-young start (suc steps) alive death young =
      let before : LifeState = life_state_after settings words start steps in
      let now : LifeState = after_step settings words before in
      let early : before.organism.age < last-age start =
      steps-young start steps (λ step low. alive step (omega (arith, low))) death young in
      let kept = steps-kept settings words start (suc steps) in
      let lives : is_old settings now.organism ≡ false =
      rw (add-one steps) at (alive steps (omega arith)) in
      let other = other-age now.organism (length start.organism.genome) (ap length kept.genome)
      death lives in
      elim (more-age before) [
        | inl older ↦ omega (arith, older, early, other)
        | inr anew ↦ omega (arith, anew, early)
      ]

-- where no step is found, each fails the test
none-found : (test : ℕ → Bool) (low count : ℕ) → find test (range_with_len low count) ≡ None
    → (step : ℕ) → low ≤ step → step < low + count → test step ≡ false
none-found test low zero none step above below = absurd (omega (arith, above, below))
none-found test low (suc count) none step above below = elim (cases_Bool (test low)) [
  | inl found ↦ let no = rw found at none in absurd cc
  | inr fails ↦ elim (cases_eq step low) [
    | inl same ↦ rw same fails
    | inr other ↦ none-found test (low + 1) count (rw fails at none) step
        (omega (arith, above, other)) (omega (arith, below))
  ]
]

-- what a life leaves; where it was no death, the age is below that of death
pub record LeavesInRange (settings : SettingNumbers) (start : LifeState)
    (left : LifeState × Ran) : Type 0 where
  pub nine : LivesWithNine start.organism.machine.limit left.0
  pub young : is_death left.1 ≡ false → settings.death ≡ true
      → start.organism.age < settings.age_limit * length start.organism.genome
      → left.0.organism.age < settings.age_limit * length start.organism.genome

-- a life leaves the limit and sets of nine tasks, and who lives on is below the age of death
pub life-in-range : KeepLimits → (settings : SettingNumbers) (words : ℕ → ℕ) (start : LifeState)
    (steps : ℕ) → LivesWithNine start.organism.machine.limit start
    → LeavesInRange settings start (life settings words start steps)
unfolding life death_in
life-in-range keep settings words start steps has =
    by (death_in settings words start steps) refl
  where
    limit : ℕ
    limit = start.organism.machine.limit

    by : (death : Option ℕ) → death_in settings words start steps ≡ death
        → LeavesInRange settings start (ended settings words start steps death)
    by None none = record {
      nine = steps-nine keep settings words limit start steps has;
      young = λ alive death young. steps-young keep settings words start steps
          (λ step low. none-found (dies_at settings words start) 0 steps none step (omega arith)
          (omega (arith, low))) death young;
    }
    by (Some step) some = record {
      nine = steps-nine keep settings words limit start (step + 1) has;
      young = λ alive. absurd cc;
    }
