-- What the life of one update comes to, for whoever may stand in a cell, and what holds of an
-- organism through it and of its newborns (docs/WORLD.md, "The life of one update").
use Rattle.std.specs.Prelude.{◌≡◌, ℕ, ◌+◌, ◌≤◌, ◌^◌, List, [], length, Ok, Bool, false, Option, None, Some}
use Rattle.organism.specs.Prelude.{All, Letter, IsGenome, RuleNumbers, child_of, IsMachine, HoldsWords}
use Rattle.mutations.specs.RecordForm.{HasRecordForm}
use Rattle.organism.specs.SettingNumbers.{SettingNumbers}
use Rattle.organism.specs.OrganismState.{OrganismState, IsOrganism}
use Rattle.organism.specs.Newborns.{NewbornValue}
use Rattle.organism.specs.UpdateLife.{LifeState, is_death, life}
use Rattle.organism.specs.declared.ran.Ran.{Ran}

-- an organism with a genome, a machine with numbers of 32 bits, and a merit from 1 to the greatest
pub record IsSoundOrganism (o : OrganismState) : Type 0 where
  pub organism : IsOrganism o
  pub machine : IsMachine o.machine
  pub words : HoldsWords o.machine
  pub genome : IsGenome o.genome
  pub some_merit : 1 ≤ o.merit
  pub merit : o.merit ≤ 2 ^ 38

-- a newborn made of this genome by a record that a log can write, of allowed length, with a merit
pub record IsBornOf (parent : List Letter) (rules : RuleNumbers)
    (newborn : NewbornValue) : Type 0 where
  pub child : child_of parent newborn.origin ≡ Ok newborn.genome
  pub form : HasRecordForm newborn.origin
  pub least : rules.least ≤ length newborn.genome
  pub greatest : length newborn.genome ≤ rules.greatest
  pub some_merit : 1 ≤ newborn.merit
  pub merit : newborn.merit ≤ 2 ^ 38

-- a life before its first step and its first word
abbrev pub beginning : OrganismState → LifeState
beginning o = record { organism = o; newborns = []; next = 0 }

-- what a life of at most so many steps made of an organism
pub record HasLived (settings : SettingNumbers) (start : OrganismState) (steps : ℕ)
    (now : LifeState) : Type 0 where
  pub sound : IsSoundOrganism now.organism
  pub genome : now.organism.genome ≡ start.genome
  pub inputs : now.organism.inputs ≡ start.inputs
  pub age : now.organism.age ≤ start.age + steps
  pub few : length now.newborns ≤ steps
  pub newborns : All (IsBornOf start.genome settings.rules) now.newborns

-- what a life comes to: the organism after the last step, whether it died of age, and its newborns
pub record OrganismLife : Type 0 where
  pub organism : Option OrganismState
  pub died : Bool
  pub newborns : List NewbornValue

-- a life that ended like this
abbrev pub ended_life : LifeState × Ran → OrganismLife
ended_life ended = record {
  organism = Some ended.0.organism;
  died = is_death ended.1;
  newborns = ended.0.newborns;
}

-- the life of an organism by these words, of at most so many steps; of nobody nothing comes
unfoldable pub life_by : SettingNumbers → (ℕ → ℕ) → ℕ → Option OrganismState → OrganismLife
life_by settings words steps None = record { organism = None; died = false; newborns = [] }
life_by settings words steps (Some o) = ended_life (life settings words (beginning o) steps)
