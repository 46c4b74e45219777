-- The life of one update (docs/WORLD.md, "The life of one update").
use Rattle.std.specs.Prelude.{◌^◌, ◌-◌, ℕ, zero, suc, ◌+◌, ◌*◌, Bool, true, false, ◌&&◌, ◌==◌, List, [], ◌∷◌, ◌++◌, Option, None, Some, length, map, find, if◌then◌else◌}
use Rattle.organism.specs.Prelude.{range_with_len, Letter, HCopy, DivideAsk, RuleNumbers, Stream, BirthRecord, child_of, origin_of, after_birth, LengthRange, child_part, letter_under_ip}
use Rattle.mutations.specs.DivideErrors.{error_letter, after_error}
use Rattle.organism.specs.declared.newborn.Newborn.{Newborn}
use Rattle.organism.specs.declared.outcome.Outcome.{Outcome}
use Rattle.organism.specs.declared.outcome.Outcome.TheVariants as outcome
use Rattle.organism.specs.declared.ran.Ran.{Ran}
use Rattle.organism.specs.declared.ran.Ran.TheVariants.{Lives, Died}
use Rattle.organism.specs.SettingNumbers.{SettingNumbers}
use Rattle.organism.specs.Life.{after_letter, life_step, divide_merit, renewed}
use Rattle.organism.specs.Newborns.{NewbornValue, newborn_value}
use Rattle.organism.specs.OrganismState.{OrganismState}
use Rattle.std.specs.Result.{result_unwrap_or}

-- an organism within an update, its newborns so far, and the number of the next word
pub record LifeState : Type 0 where
  pub organism : OrganismState
  pub newborns : List NewbornValue
  pub next : ℕ

-- the state of an organism, its births and its stream
abbrev pub life_state : OrganismState → List Newborn → Stream → LifeState
life_state o births stream =
    record { organism = o; newborns = map newborn_value births; next = stream.taken }

-- whether a letter may draw a copy error
abbrev pub is_copy : Letter → Bool
is_copy HCopy = true
is_copy _ = false

-- the letter of a copy error, which only h-copy draws
abbrev pub copy_of : Letter → (ℕ → ℕ) → ℕ → ℕ → Option Letter
copy_of letter words rate k = if is_copy letter then error_letter words rate k else None

-- the number of the word after that test
abbrev pub after_copy_of : Letter → (ℕ → ℕ) → ℕ → ℕ → ℕ
after_copy_of letter words rate k = if is_copy letter then after_error words rate k else k

-- the child's part of the clean text
abbrev pub clean_text : OrganismState → DivideAsk → List Letter
clean_text o ask = child_part o.machine.clean ask.read ask.end

-- the child's part of memory
abbrev pub written_text : OrganismState → DivideAsk → List Letter
written_text o ask = child_part o.machine.memory ask.read ask.end

-- the lengths in which errors leave a child
abbrev pub child_range : RuleNumbers → LengthRange
child_range rules = record { least = rules.least; greatest = rules.greatest }

-- the record of a birth, word k being the first
unfoldable pub birth_record : SettingNumbers → (ℕ → ℕ) → ℕ → OrganismState → DivideAsk → BirthRecord
birth_record settings words k o ask =
    origin_of words k settings.rates (child_range settings.rules) (clean_text o ask)
    (written_text o ask) o.genome

-- the number of the word after those of a birth
unfoldable pub after_child : SettingNumbers → (ℕ → ℕ) → ℕ → OrganismState → DivideAsk → ℕ
after_child settings words k o ask =
    after_birth words k settings.rates (child_range settings.rules) (clean_text o ask)
    (written_text o ask)

-- the letters that its record makes of the parent's genome; a refused record makes none
unfoldable pub child_letters : SettingNumbers → (ℕ → ℕ) → ℕ → OrganismState → DivideAsk
    → List Letter
child_letters settings words k o ask =
    result_unwrap_or (child_of o.genome (birth_record settings words k o ask)) []

-- the newborn of a viable divide
abbrev pub newborn_of : SettingNumbers → (ℕ → ℕ) → LifeState → DivideAsk → NewbornValue
newborn_of settings words s ask = record {
  nth = length s.newborns;
  genome = child_letters settings words s.next s.organism ask;
  origin = birth_record settings words s.next s.organism ask;
  merit = divide_merit s.organism ask;
  credited = s.organism.gestation;
}

-- a viable divide makes a newborn and renews the parent
abbrev pub after_outcome : SettingNumbers → (ℕ → ℕ) → LifeState → Outcome → LifeState
after_outcome settings words s (outcome.Viable ask) = record {
  organism = renewed s.organism ask;
  newborns = s.newborns ++ newborn_of settings words s ask ∷ [];
  next = after_child settings words s.next s.organism ask;
}
after_outcome settings words s _ = s

-- the state once a letter had its effect, and after what follows from it
abbrev pub after_effect : SettingNumbers → (ℕ → ℕ) → LifeState → Letter → Option Letter → LifeState
after_effect settings words s letter copy =
    let stepped = after_letter s.organism letter copy settings.rules in
    after_outcome settings words (record s { organism = stepped.0 }) stepped.1

-- the state after one more step, of the letter under IP
unfoldable pub after_step : SettingNumbers → (ℕ → ℕ) → LifeState → LifeState
after_step settings words s =
    let letter = letter_under_ip s.organism.machine in
    let copy = copy_of letter words settings.rates.copy s.next in
    let stepped = life_step s.organism copy settings.rules in
    let next = after_copy_of letter words settings.rates.copy s.next in
    after_outcome settings words (record s { organism = stepped.0; next = next }) stepped.1

-- the state after so many steps
unfoldable pub life_state_after : SettingNumbers → (ℕ → ℕ) → LifeState → ℕ → LifeState
life_state_after settings words start zero = start
life_state_after settings words start (suc steps) =
    after_step settings words (life_state_after settings words start steps)

-- whether death is on and the age is at its limit
abbrev pub is_old : SettingNumbers → OrganismState → Bool
is_old settings o = settings.death && (o.age == settings.age_limit * length o.genome)

-- the age at which it dies, or one that no organism reaches
abbrev pub age_of_death : SettingNumbers → OrganismState → ℕ
age_of_death settings o =
    if settings.death then settings.age_limit * length o.genome else 2 ^ 64 - 1

-- whether it is so after the step with this number from 0
abbrev pub dies_at : SettingNumbers → (ℕ → ℕ) → LifeState → ℕ → Bool
dies_at settings words start step =
    is_old settings (life_state_after settings words start (step + 1)).organism

-- the first of so many steps with which the organism dies
unfoldable pub death_in : SettingNumbers → (ℕ → ℕ) → LifeState → ℕ → Option ℕ
death_in settings words start steps = find (dies_at settings words start) (range_with_len 0 steps)

-- a life ends with the step of its death, or with all steps
abbrev pub ended : SettingNumbers → (ℕ → ℕ) → LifeState → ℕ → Option ℕ → LifeState × Ran
ended settings words start steps None = (life_state_after settings words start steps, Lives)
ended settings words start steps (Some step) =
    (life_state_after settings words start (step + 1), Died (step + 1))

-- whether a life ended by age
abbrev pub is_death : Ran → Bool
is_death Lives = false
is_death (Died after) = true

-- the life of one update, of at most so many steps
unfoldable pub life : SettingNumbers → (ℕ → ℕ) → LifeState → ℕ → LifeState × Ran
life settings words start steps =
    ended settings words start steps (death_in settings words start steps)
