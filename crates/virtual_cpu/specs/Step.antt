-- One step of the machine (docs/MACHINE.md, "One step").
use Rattle.std.specs.Prelude.{◌≡◌, ℤ, Option}
use Rattle.virtual_cpu.specs.Prelude.{Letter}
use Rattle.virtual_cpu.specs.declared.step_answer.StepAnswer.{StepAnswer}
use Rattle.virtual_cpu.specs.declared.step_answer.StepAnswer.TheVariants.{Plain, Copied, Output, Asks, Allocated}
use Rattle.virtual_cpu.specs.Machine.{Machine, letter_under_ip, with_ip_marked}
use Rattle.virtual_cpu.specs.Effects.{effect_of}
use Rattle.virtual_cpu.specs.Replication.{divide_question}

-- the place of IP is marked, and the letter there has its effect
unfoldable pub step : Machine → ℤ → Option Letter → Machine × StepAnswer
step m input copy = effect_of (letter_under_ip m) (with_ip_marked m) input copy

-- a question that is told is that of this machine
abbrev pub AsksOf : Machine → StepAnswer → Type 0
AsksOf m (Asks ask) = ask ≡ divide_question m
AsksOf m _ = Unit {0}

-- nothing is put out and nothing is asked
abbrev pub TellsNothing : StepAnswer → Type 0
TellsNothing Plain = Unit {0}
TellsNothing Copied = Unit {0}
TellsNothing Allocated = Unit {0}
TellsNothing (Output value) = ⊥
TellsNothing (Asks ask) = ⊥

-- what no step changes
pub record KeepsLimits (old new : Machine) : Type 0 where
  pub birth_length : new.birth_length ≡ old.birth_length
  pub limit : new.limit ≡ old.limit
