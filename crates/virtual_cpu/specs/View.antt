-- What contracts see of a `Cpu`, the images of machines, and that their numbers have 32 bits
-- (docs/MACHINE.md, "The machine").
use Rattle.std.specs.Prelude.{All, FitsSigned, ◌*◌, ◌≤◌, min, ℕ, ℤ, pos, List, [], ◌∷◌, slice_index_or}
use Rattle.virtual_cpu.specs.Prelude.{w32}
use Rattle.virtual_cpu.specs.Machine.{Machine, IsMachine}
use Rattle.virtual_cpu.specs.declared.cpu.Cpu.TheInside.{Inside}
use Rattle.virtual_cpu.specs.declared.cpu_image.CpuImage.{CpuImage}
use Rattle.virtual_cpu.specs.declared.registers.Registers.{Registers}
use Rattle.virtual_cpu.specs.declared.heads.Heads.{Heads}

-- what the registers and both stacks hold has 32 bits
pub record HoldsWords (m : Machine) : Type 0 where
  pub ax : FitsSigned w32 m.registers.ax
  pub bx : FitsSigned w32 m.registers.bx
  pub cx : FitsSigned w32 m.registers.cx
  pub stacks : All (λ stack. All (λ number. FitsSigned w32 number) stack) m.stacks

-- the machine that a `Cpu` is
abbrev pub machine_view : Inside → Machine
machine_view cpu = record {
  memory = cpu.sites.letters;
  clean = cpu.sites.clean;
  executed = cpu.sites.executed;
  copied = cpu.sites.copied;
  registers = cpu.registers;
  stacks = cpu.stacks;
  active = cpu.active;
  heads = cpu.heads;
  nops = cpu.nops;
  pending = cpu.pending;
  birth_length = cpu.birth_length;
  limit = cpu.limit;
}

-- a machine, and room for all that it may grow to
pub record IsMachineWithRoom (cpu : Inside) : Type 0 where
  pub machine : IsMachine (machine_view cpu)
  pub room : min cpu.limit (6 * cpu.birth_length) ≤ cpu.sites.room

-- AX, BX and CX, in this order
abbrev pub registers_of : List ℤ → Registers
registers_of numbers = record {
  ax = slice_index_or numbers 0 (pos 0);
  bx = slice_index_or numbers 1 (pos 0);
  cx = slice_index_or numbers 2 (pos 0);
}

-- IP, READ, WRITE and FLOW, in this order
abbrev pub heads_of : List ℕ → Heads
heads_of places = record {
  ip = slice_index_or places 0 0;
  read = slice_index_or places 1 0;
  write = slice_index_or places 2 0;
  flow = slice_index_or places 3 0;
}

-- the values of a machine
abbrev pub image_of : Machine → CpuImage
image_of m = record {
  registers = m.registers.ax ∷ m.registers.bx ∷ m.registers.cx ∷ [];
  active = m.active;
  heads = m.heads.ip ∷ m.heads.read ∷ m.heads.write ∷ m.heads.flow ∷ [];
  pending = m.pending;
  nops = m.nops;
  first = slice_index_or m.stacks 0 [];
  second = slice_index_or m.stacks 1 [];
  memory = m.memory;
  clean = m.clean;
  executed = m.executed;
  copied = m.copied;
}

-- the machine with these values, made for a genome of a length, under a limit
abbrev pub machine_of_image : CpuImage → ℕ → ℕ → Machine
machine_of_image image birth_length limit = record {
  memory = image.memory;
  clean = image.clean;
  executed = image.executed;
  copied = image.copied;
  registers = registers_of image.registers;
  stacks = image.first ∷ image.second ∷ [];
  active = image.active;
  heads = heads_of image.heads;
  nops = image.nops;
  pending = image.pending;
  birth_length = birth_length;
  limit = limit;
}
