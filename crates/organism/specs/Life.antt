-- One step of a life, with a copy error or without (docs/WORLD.md, "The life of one update").
use Rattle.std.specs.Prelude.{ℕ, ℤ, ◌+◌, ◌*◌, ◌-◌, ◌≤◌, ◌%◌, Option, Some, None, length, slice_index_or, if◌then◌else◌, option_and_then}
use Rattle.organism.specs.Prelude.{Letter, Task, task_done, no_tasks, has_task, with_task, DivideAsk, RuleNumbers, Machine, fresh_machine, parent_part, step}
use Rattle.std.specs.Int.{cast_signed, w32}
use Rattle.merit_slices.specs.Merit.{merit_of}
use Rattle.divide_rules.specs.declared.verdict.Verdict.{Verdict}
use Rattle.divide_rules.specs.declared.verdict.Verdict.TheVariants as verdict
use Rattle.divide_rules.specs.Viability.{verdict_of}
use Rattle.virtual_cpu.specs.declared.step_answer.StepAnswer.{StepAnswer}
use Rattle.virtual_cpu.specs.declared.step_answer.StepAnswer.TheVariants.{Output, Asks}
use Rattle.virtual_cpu.specs.Effects.{effect_of}
use Rattle.organism.specs.OrganismState.{OrganismState}
use Rattle.organism.specs.declared.outcome.Outcome.{Outcome}
use Rattle.organism.specs.declared.outcome.Outcome.TheVariants as outcome

-- the input that IO takes next: the three come round
abbrev pub next_input : OrganismState → ℤ
next_input o = cast_signed w32 (slice_index_or o.inputs (o.read % 3) 0)

-- the machine is another, and the age is one more
abbrev pub older : OrganismState → Machine → OrganismState
older o machine = record o { machine = machine; age = o.age + 1 }

-- the task that an output does with the inputs read before, where it is new to this gestation
abbrev pub newly_done : OrganismState → ℤ → Option Task
newly_done o output =
    option_and_then (λ task. if has_task o.gestation task then None else Some task)
    (task_done output o.inputs o.read)

-- a task is newly done, or none is
abbrev pub with_done : OrganismState → Option Task → OrganismState × Outcome
with_done o None = (o, outcome.Nothing)
with_done o (Some task) = (record o { gestation = with_task o.gestation task }, outcome.Task task)

-- after IO the output counts, and one more input was read
unfoldable pub after_output : OrganismState → ℤ → OrganismState × Outcome
after_output o output = with_done (record o { read = o.read + 1 }) (newly_done o output)

-- what a verdict on a divide comes to
abbrev pub divide_outcome : Verdict → DivideAsk → Outcome
divide_outcome verdict.Viable ask = outcome.Viable ask
divide_outcome (verdict.Broken rule found bound) ask = outcome.Refused rule found bound

-- after h-divide the rules are tried
abbrev pub after_question : OrganismState → RuleNumbers → DivideAsk → Outcome
after_question o rules ask = divide_outcome (verdict_of ask (length o.genome) rules) ask

-- what follows from what the machine tells
abbrev pub after_did : OrganismState → RuleNumbers → StepAnswer → OrganismState × Outcome
after_did o rules (Output value) = after_output o value
after_did o rules (Asks ask) = (o, after_question o rules ask)
after_did o rules _ = (o, outcome.Nothing)

-- what the letter that was taken comes to
unfoldable pub after_letter : OrganismState → Letter → Option Letter → RuleNumbers
    → OrganismState × Outcome
after_letter o letter copy rules =
    let effect = effect_of letter o.machine (next_input o) copy in
    after_did (older o effect.0) rules effect.1

-- one step, with the letter of a copy error, but for the renewal that a viable divide brings
unfoldable pub life_step : OrganismState → Option Letter → RuleNumbers → OrganismState × Outcome
life_step o copy rules =
    let did = step o.machine (next_input o) copy in after_did (older o did.0) rules did.1

-- the merit that a divide gives to parent and child
abbrev pub divide_merit : OrganismState → DivideAsk → ℕ
divide_merit o ask = merit_of (length o.genome) ask.executed ask.copied o.gestation

-- the parent after a viable divide: its machine begins anew on the kept part
unfoldable pub renewed : OrganismState → DivideAsk → OrganismState
renewed o ask = record o {
  merit = divide_merit o ask;
  credited = o.gestation;
  age = 0;
  read = 0;
  gestation = no_tasks;
  machine = fresh_machine (parent_part o.machine.memory ask.read) o.machine.birth_length
      o.machine.limit;
}

-- a divide's parts are long enough for genomes, in memory, the parent's at most twice its genome
pub record IsDivide (o : OrganismState) (ask : DivideAsk) : Type 0 where
  pub least_parent : 8 ≤ ask.read
  pub least_child : 8 ≤ ask.end - ask.read
  pub parent_within : ask.read ≤ length o.machine.memory
  pub child_within : ask.end ≤ length o.machine.memory
  pub clean_within : ask.end ≤ length o.machine.clean
  pub twice_genome : ask.read ≤ 2 * length o.genome

-- the child of a divide has a length that the rules allow
pub record HasAllowedLength (rules : RuleNumbers) (ask : DivideAsk) : Type 0 where
  pub least : rules.least ≤ ask.end - ask.read
  pub greatest : ask.end - ask.read ≤ rules.greatest

-- where an outcome is a viable divide, this holds of it
abbrev pub OnViable : Outcome → (DivideAsk → Type 0) → Type 0
OnViable (outcome.Viable ask) P = P ask
OnViable _ P = Unit {0}
