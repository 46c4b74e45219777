-- What h-alloc and h-copy do before IP advances, the two parts of a divide, and what its rules are
-- asked (docs/MACHINE.md, "h-alloc", "h-copy" and "h-divide").
use Rattle.std.specs.Prelude.{ℕ, pos, ◌-◌, ◌*◌, ◌++◌, Bool, true, false, length, min, replicate, nat_lt, if◌then◌else◌, Option, unwrap_or, slice_set, List, count_by, take, drop, ◌==◌}
use Rattle.virtual_cpu.specs.Prelude.{NopA, Letter, nops_read}
use Rattle.virtual_cpu.specs.declared.registers.Register.TheVariants.{Ax}
use Rattle.virtual_cpu.specs.Parts.{with_register}
use Rattle.virtual_cpu.specs.Machine.{Machine, letter_in_memory, place_after}
use Rattle.divide_rules.specs.declared.ask.DivideAsk.{DivideAsk}

-- the places that an allocation adds
abbrev pub extra_places : Machine → ℕ
extra_places m = min (2 * length m.memory) (m.limit - length m.memory)

-- no allocation is pending, and memory is below its limit
abbrev pub can_allocate : Machine → Bool
can_allocate m = if m.pending then false else nat_lt (length m.memory) m.limit

-- memory with further places of nop-A, unmarked, and its old length in AX
unfoldable pub with_allocation : Machine → Machine
with_allocation m = record m {
  memory = m.memory ++ replicate (extra_places m) NopA;
  clean = m.clean ++ replicate (extra_places m) NopA;
  executed = m.executed ++ replicate (extra_places m) false;
  copied = m.copied ++ replicate (extra_places m) false;
  registers = with_register m.registers Ax (pos (length m.memory));
  pending = true;
}

-- the letter at READ is read, and it or the letter of a copy error is written at WRITE
unfoldable pub after_h_copy : Machine → Option Letter → Machine
after_h_copy m copy =
    let read = letter_in_memory m m.heads.read in
    record m {
      memory = slice_set m.memory m.heads.write (unwrap_or copy read);
      clean = slice_set m.clean m.heads.write read;
      copied = slice_set m.copied m.heads.write true;
      nops = nops_read m.nops read;
      heads = record m.heads
          { read = place_after m m.heads.read; write = place_after m m.heads.write };
    }

-- the end of the child's part
abbrev pub end_of : Machine → ℕ
end_of m = if m.heads.write == 0 then length m.memory else m.heads.write

-- the places of a list before READ
abbrev pub parent_part : {A : Type 0} → List A → ℕ → List A
parent_part places read = take read places

-- the places of a list from READ to the end
abbrev pub child_part : {A : Type 0} → List A → ℕ → ℕ → List A
child_part places read end = take (end - read) (drop read places)

-- how many places are in a set
abbrev pub count_of : List Bool → ℕ
count_of places = count_by (λ is_in. is_in) places

-- what h-divide asks of the rules
unfoldable pub divide_question : Machine → DivideAsk
divide_question m = record {
  allocated = m.pending;
  read = m.heads.read;
  end = end_of m;
  executed = count_of (parent_part m.executed m.heads.read);
  copied = count_of (child_part m.copied m.heads.read (end_of m));
}
