-- The parts of the machine: its three registers, its four heads, and stacks of ten numbers, the top
-- first (docs/MACHINE.md, "The machine").
use Rattle.std.specs.Prelude.{ℤ, ℕ, pos, List, [], ◌∷◌, ◌++◌, take, drop, slice_index_or}
use Rattle.virtual_cpu.specs.declared.registers.Register.{Register}
use Rattle.virtual_cpu.specs.declared.registers.Register.TheVariants.{Ax, Bx, Cx}
use Rattle.virtual_cpu.specs.declared.registers.Registers.{Registers}
use Rattle.virtual_cpu.specs.declared.heads.Head.{Head}
use Rattle.virtual_cpu.specs.declared.heads.Head.TheVariants.{Ip, Read, Write}
use Rattle.virtual_cpu.specs.declared.heads.Heads.{Heads}

-- the register next to another
abbrev pub register_after : Register → Register
register_after Ax = Bx
register_after Bx = Cx
register_after Cx = Ax

-- the number in a register
abbrev pub value_of : Registers → Register → ℤ
value_of registers Ax = registers.ax
value_of registers Bx = registers.bx
value_of registers Cx = registers.cx

-- the registers with another number in one of them
abbrev pub with_register : Registers → Register → ℤ → Registers
with_register registers Ax value = record registers { ax = value }
with_register registers Bx value = record registers { bx = value }
with_register registers Cx value = record registers { cx = value }

-- the place of a head
abbrev pub head_place : Heads → Head → ℕ
head_place heads Ip = heads.ip
head_place heads Read = heads.read
head_place heads Write = heads.write

-- the heads with one of them at another place
abbrev pub with_head : Heads → Head → ℕ → Heads
with_head heads Ip place = record heads { ip = place }
with_head heads Read place = record heads { read = place }
with_head heads Write place = record heads { write = place }

-- a number on top, and the tenth dropped
abbrev pub pushed : ℤ → List ℤ → List ℤ
pushed number stack = number ∷ take 9 stack

-- the number on top
abbrev pub top_of : List ℤ → ℤ
top_of stack = slice_index_or stack 0 (pos 0)

-- the top taken, and a 0 at the bottom
abbrev pub popped : List ℤ → List ℤ
popped stack = drop 1 stack ++ pos 0 ∷ []
