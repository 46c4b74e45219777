-- The column of defaults in the instruction table (docs/MACHINE.md, "The instruction table").
use Rattle.std.specs.Prelude.{Bool, true, false}
use Rattle.instruction_set.specs.declared.letter.Letter.{Letter}
use Rattle.instruction_set.specs.declared.letter.Letter.TheVariants.{NopA, NopB, NopC, IfLabel, MovHead, JmpHead, GetHead, SetFlow, SwapStk, HCopy, HAlloc, HDivide, HSearch}
use Rattle.instruction_set.specs.declared.letter.Class.{Class}
use Rattle.instruction_set.specs.declared.letter.Class.TheVariants.{Register, Head}

-- what an instruction uses where no nop after it picks something else
pub data Default : Type 0 where
  NoDefault : Default
  RegisterBx : Default
  RegisterCx : Default
  HeadIp : Default

-- the default of a letter: set-flow uses CX, and every other row of a register BX
abbrev pub default_of : Letter → Default
default_of NopA = NoDefault
default_of NopB = NoDefault
default_of NopC = NoDefault
default_of IfLabel = NoDefault
default_of MovHead = HeadIp
default_of JmpHead = HeadIp
default_of GetHead = HeadIp
default_of SetFlow = RegisterCx
default_of SwapStk = NoDefault
default_of HCopy = NoDefault
default_of HAlloc = NoDefault
default_of HDivide = NoDefault
default_of HSearch = NoDefault
default_of _ = RegisterBx

-- whether a default is of a class
abbrev pub is_of_class : Default → Class → Bool
is_of_class NoDefault Register = false
is_of_class NoDefault Head = false
is_of_class NoDefault _ = true
is_of_class RegisterBx Register = true
is_of_class RegisterBx _ = false
is_of_class RegisterCx Register = true
is_of_class RegisterCx _ = false
is_of_class HeadIp Head = true
is_of_class HeadIp _ = false
