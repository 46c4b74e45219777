-- The machine, as contracts see it (docs/MACHINE.md, "The machine").
use Rattle.std.specs.Prelude.{◌≡◌, ℕ, ℤ, pos, ◌+◌, ◌*◌, ◌<◌, ◌≤◌, ◌%◌, Bool, true, false, All, List, [], length, replicate, slice_index_or, slice_set, unsigned_abs, if◌then◌else◌}
use Rattle.virtual_cpu.specs.Prelude.{int_rem_euclid, Letter, NopA, IsTemplate}
use Rattle.virtual_cpu.specs.declared.registers.Register.{Register}
use Rattle.virtual_cpu.specs.declared.registers.Registers.{Registers}
use Rattle.virtual_cpu.specs.declared.heads.Head.{Head}
use Rattle.virtual_cpu.specs.declared.heads.Head.TheVariants.{Ip}
use Rattle.virtual_cpu.specs.declared.heads.Heads.{Heads}
use Rattle.virtual_cpu.specs.Parts.{with_register, with_head}

-- a machine; a set of places is a list that tells for each place whether it is in the set
pub record Machine : Type 0 where
  pub memory : List Letter
  -- what was copied, before any copy error
  pub clean : List Letter
  pub executed : List Bool
  pub copied : List Bool
  pub registers : Registers
  pub stacks : List (List ℤ)
  -- the place of the active stack
  pub active : ℕ
  pub heads : Heads
  -- the nops read last
  pub nops : List Letter
  -- whether an allocation is pending
  pub pending : Bool
  -- the length of the genome that the machine was made for
  pub birth_length : ℕ
  -- the length above which memory never grows
  pub limit : ℕ

-- the machine at its start on a text
abbrev pub fresh_machine : List Letter → ℕ → ℕ → Machine
fresh_machine text birth_length limit = record {
  memory = text;
  clean = text;
  executed = replicate (length text) false;
  copied = replicate (length text) false;
  registers = record { ax = pos 0; bx = pos 0; cx = pos 0 };
  stacks = replicate 2 (replicate 10 (pos 0));
  active = 0;
  heads = record { ip = 0; read = 0; write = 0; flow = 0 };
  nops = [];
  pending = false;
  birth_length = birth_length;
  limit = limit;
}

-- what holds of every machine
pub record IsMachine (m : Machine) : Type 0 where
  pub clean : length m.clean ≡ length m.memory
  pub executed : length m.executed ≡ length m.memory
  pub copied : length m.copied ≡ length m.memory
  pub stacks : length m.stacks ≡ 2
  pub ten : All (λ stack. length stack ≡ 10) m.stacks
  pub active : m.active < 2
  pub template : IsTemplate m.nops
  pub ip : m.heads.ip < length m.memory
  pub read : m.heads.read < length m.memory
  pub write : m.heads.write < length m.memory
  pub flow : m.heads.flow < length m.memory
  pub least : 8 ≤ length m.memory
  pub greatest : length m.memory ≤ m.limit
  pub growth : length m.memory ≤ (if m.pending then 6 else 2) * m.birth_length
  pub birth_length : m.birth_length ≤ m.limit
  pub limit : m.limit ≤ 8192

-- the letter at a place; no machine has a place past the end
abbrev pub letter_in_memory : Machine → ℕ → Letter
letter_in_memory m place = slice_index_or m.memory place NopA

-- the letter under IP
abbrev pub letter_under_ip : Machine → Letter
letter_under_ip m = letter_in_memory m m.heads.ip

-- the place after another, across the end to place 0
abbrev pub place_after : Machine → ℕ → ℕ
place_after m place = (place + 1) % length m.memory

-- the place of a number, by floor modulo
abbrev pub place_of_number : Machine → ℤ → ℕ
place_of_number m number = unsigned_abs (int_rem_euclid number (pos (length m.memory)))

-- the place of IP is marked executed
abbrev pub with_ip_marked : Machine → Machine
with_ip_marked m = record m { executed = slice_set m.executed m.heads.ip true }

-- a head is at a place
abbrev pub with_head_at : Machine → Head → ℕ → Machine
with_head_at m head place = record m { heads = with_head m.heads head place }

-- FLOW is at a place
abbrev pub with_flow_at : Machine → ℕ → Machine
with_flow_at m place = record m { heads = record m.heads { flow = place } }

-- IP is one place further
abbrev pub with_ip_advanced : Machine → Machine
with_ip_advanced m = with_head_at m Ip (place_after m m.heads.ip)

-- a register has a value
abbrev pub with_value : Machine → Register → ℤ → Machine
with_value m register value = record m { registers = with_register m.registers register value }
