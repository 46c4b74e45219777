-- Which operand letters take (docs/MACHINE.md, "The instruction table", "Modifiers", "Templates").
use Rattle.std.specs.Prelude.{◌≡◌, ℤ, ◌+◌, ◌%◌, List, Option, length}
use Rattle.virtual_cpu.specs.Prelude.{Letter, Default, NoDefault, RegisterBx, RegisterCx, HeadIp}
use Rattle.instruction_set.specs.declared.letter.Class.{Class}
use Rattle.instruction_set.specs.declared.letter.Class.TheVariants.{Template}
use Rattle.virtual_cpu.specs.declared.registers.Register.{Register}
use Rattle.virtual_cpu.specs.declared.registers.Register.TheVariants.{Bx, Cx}
use Rattle.virtual_cpu.specs.declared.heads.Head.{Head}
use Rattle.virtual_cpu.specs.declared.heads.Head.TheVariants.{Ip}
use Rattle.virtual_cpu.specs.declared.step_answer.StepAnswer.{StepAnswer}
use Rattle.virtual_cpu.specs.Machine.{Machine}
use Rattle.virtual_cpu.specs.Operands.{register_picked, head_picked, on_modifier, template_of, on_template}
use Rattle.virtual_cpu.specs.Effects.{effect_of}

-- a letter acts, with IP on the modifier, on the register that the modifier picks, else on this one
pub record TakesRegister (letter : Letter) (default : Register) : Type 0 where
  pub act : Machine → Register → ℤ → Machine × StepAnswer
  pub is : (m : Machine) (input : ℤ) (copy : Option Letter)
      → effect_of letter m input copy ≡ act (on_modifier m) (register_picked m default) input

-- a letter acts, with IP on the modifier, on the head that the modifier picks or else on this one
pub record TakesHead (letter : Letter) (default : Head) : Type 0 where
  pub act : Machine → Head → Machine × StepAnswer
  pub is : (m : Machine) (input : ℤ) (copy : Option Letter)
      → effect_of letter m input copy ≡ act (on_modifier m) (head_picked m default)

-- a letter acts, with IP on the last nop of the template, by that template
pub record TakesTemplate (letter : Letter) : Type 0 where
  pub act : Machine → List Letter → Machine × StepAnswer
  pub is : (m : Machine) (input : ℤ) (copy : Option Letter)
      → effect_of letter m input copy ≡ act (on_template m) (template_of m)

-- a letter takes the operand of its class, with its row's default; others move IP by one place
abbrev pub TakesOperand : Default → Class → Letter → Type 0
TakesOperand RegisterBx _ letter = TakesRegister letter Bx
TakesOperand RegisterCx _ letter = TakesRegister letter Cx
TakesOperand HeadIp _ letter = TakesHead letter Ip
TakesOperand NoDefault Template letter = TakesTemplate letter
TakesOperand NoDefault _ letter = (m : Machine) (input : ℤ) (copy : Option Letter)
    → (effect_of letter m input copy).0.heads.ip
    ≡ (m.heads.ip + 1) % length (effect_of letter m input copy).0.memory
