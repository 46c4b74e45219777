-- What a life needs to know of its world, as numbers, and what it may add within some steps, so
-- that no number leaves its range (docs/WORLD.md, "The life of one update").
use Rattle.std.specs.Prelude.{ℕ, Bool, ◌≡◌, ◌+◌, ◌≤◌, ◌^◌, List, length}
use Rattle.organism.specs.Prelude.{RuleNumbers, rule_numbers, RateNumbers, numbers_of, Stream, All, letters}
use Rattle.organism.specs.declared.settings.Settings.{Settings}
use Rattle.organism.specs.declared.newborn.Newborn.{Newborn}
use Rattle.organism.specs.OrganismState.{OrganismState}

-- rates of errors, rules of a divide, whether age kills, at which multiple of length, memory limit
pub record SettingNumbers : Type 0 where
  pub rates : RateNumbers
  pub rules : RuleNumbers
  pub death : Bool
  pub age_limit : ℕ
  pub memory_limit : ℕ

-- the numbers of some settings
abbrev pub setting_numbers : Settings → SettingNumbers
setting_numbers settings = record {
  rates = numbers_of settings.rates;
  rules = rule_numbers settings.rules;
  death = settings.death;
  age_limit = settings.age_limit;
  memory_limit = settings.memory_limit;
}

-- an organism within an update, its newborns so far, and its stream
pub record LifeNow : Type 0 where
  pub organism : OrganismState
  pub births : List Newborn
  pub draws : Stream

-- a life of these parts
abbrev pub life_now : OrganismState → List Newborn → Stream → LifeNow
life_now o births draws = record { organism = o; births = births; draws = draws }

-- at most so much more age, births and words; the genome stays, merits and lengths stay in bounds
pub record GoesOn (settings : SettingNumbers) (steps children words : ℕ)
    (old new : LifeNow) : Type 0 where
  pub age : new.organism.age ≤ old.organism.age + steps
  pub births : length new.births ≤ length old.births + children
  pub taken : new.draws.taken ≤ old.draws.taken + words
  pub genome : new.organism.genome ≡ old.organism.genome
  pub merit : old.organism.merit ≤ 2 ^ 38 → new.organism.merit ≤ 2 ^ 38
  pub merits : All (λ child. child.merit ≤ 2 ^ 38) old.births
      → All (λ child. child.merit ≤ 2 ^ 38) new.births
  pub lengths : All (λ child. length (letters child.genome) ≤ settings.rules.greatest) old.births
      → All (λ child. length (letters child.genome) ≤ settings.rules.greatest) new.births
