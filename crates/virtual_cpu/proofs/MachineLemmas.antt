-- A machine with one part changed is still a machine.
use Rattle.std.proofs.Common.{◌≡◌, refl, ◌∙◌, ℕ, ℤ, pos, negsuc, ◌+◌, ◌*◌, ◌<◌, ◌≤◌, ◌%◌, Bool, true, false, Option, Some, None, List, [], ◌∷◌, length, set, replicate, drop, All, arith, length-set, length-append, length-drop, length-take}
use Rattle.virtual_cpu.proofs.Prelude.{int_rem_euclid, length-replicate, All-nil, All-set, All-replicate, Letter, is_nop, Head, Ip, Read, Write, pushed, popped, Machine, IsMachine, fresh_machine, place_after, place_of_number, with_ip_marked, with_head_at, with_flow_at, with_ip_advanced, modifier_of, on_next_place, on_modifier, on_modifier_of, template_of, on_template, on_last_of, skipping_if, active_stack, with_active_stack, with_picked}
use Rattle.std.specs.Int.RustNames.{unsigned_abs}
use Rattle.virtual_cpu.specs.declared.registers.Registers.{Registers}
use Rattle.virtual_cpu.specs.declared.heads.Heads.{Heads}

-- a machine at its start on a text
pub fresh : (text : List Letter) (birth_length limit : ℕ) → 8 ≤ length text → length text ≤ limit
    → length text ≤ 2 * birth_length → birth_length ≤ limit → limit ≤ 8192
    → IsMachine (fresh_machine text birth_length limit)
fresh text birth_length limit least within twice room greatest = record {
  clean = refl;
  executed = length-replicate (length text) false;
  copied = length-replicate (length text) false;
  stacks = refl;
  ten = All-replicate (λ stack. length stack ≡ 10) 2 (replicate 10 (pos 0)) refl;
  active = omega arith;
  template = record { few = omega arith; nops = All-nil (λ letter. is_nop letter ≡ true) };
  ip = omega arith;
  read = omega arith;
  write = omega arith;
  flow = omega arith;
  least = least;
  greatest = within;
  growth = twice;
  birth_length = room;
  limit = greatest;
}

-- other registers, stacks, executed places and heads
with_parts : (m : Machine) (registers : Registers) (stacks : List (List ℤ)) (active : ℕ)
    (executed : List Bool) (heads : Heads) → IsMachine m → length stacks ≡ 2
    → All (λ stack. length stack ≡ 10) stacks → active < 2 → length executed ≡ length m.memory
    → heads.ip < length m.memory → heads.read < length m.memory → heads.write < length m.memory
    → heads.flow < length m.memory
    → IsMachine (record m {
      registers = registers;
      stacks = stacks;
      active = active;
      executed = executed;
      heads = heads;
    })
with_parts m registers stacks active executed heads h two ten one_of marks ip read write flow = record {
  clean = h.clean;
  executed = marks;
  copied = h.copied;
  stacks = two;
  ten = ten;
  active = one_of;
  template = h.template;
  ip = ip;
  read = read;
  write = write;
  flow = flow;
  least = h.least;
  greatest = h.greatest;
  growth = h.growth;
  birth_length = h.birth_length;
  limit = h.limit;
}

-- other heads, which are in memory
with_heads : (m : Machine) (heads : Heads) → IsMachine m → heads.ip < length m.memory
    → heads.read < length m.memory → heads.write < length m.memory → heads.flow < length m.memory
    → IsMachine (record m { heads = heads })
with_heads m heads h =
    with_parts m m.registers m.stacks m.active m.executed heads h h.stacks h.ten h.active h.executed

-- other registers, other numbers on two stacks, and one of the two active
pub with_numbers : (m : Machine) (registers : Registers) (stacks : List (List ℤ)) (active : ℕ)
    → IsMachine m → length stacks ≡ 2 → All (λ stack. length stack ≡ 10) stacks → active < 2
    → IsMachine (record m { registers = registers; stacks = stacks; active = active })
with_numbers m registers stacks active h two ten one_of =
    with_parts m registers stacks active m.executed m.heads h two ten one_of h.executed h.ip h.read
    h.write h.flow

-- a place is marked
pub marked : (m : Machine) → IsMachine m → IsMachine (with_ip_marked m)
marked m h =
    with_parts m m.registers m.stacks m.active (set m.executed m.heads.ip true) m.heads h h.stacks
    h.ten h.active (length-set m.executed m.heads.ip true ∙ h.executed) h.ip h.read h.write h.flow

-- a head is at another place of memory
pub head_at : (m : Machine) (head : Head) (place : ℕ) → IsMachine m → place < length m.memory
    → IsMachine (with_head_at m head place)
head_at m Ip place h within =
    with_heads m (record m.heads { ip = place }) h within h.read h.write h.flow
head_at m Read place h within =
    with_heads m (record m.heads { read = place }) h h.ip within h.write h.flow
head_at m Write place h within =
    with_heads m (record m.heads { write = place }) h h.ip h.read within h.flow

-- FLOW is at another place of memory
pub flow_at : (m : Machine) (place : ℕ) → IsMachine m → place < length m.memory
    → IsMachine (with_flow_at m place)
flow_at m place h within =
    with_heads m (record m.heads { flow = place }) h h.ip h.read h.write within

-- a remainder is a place of memory
pub rem-within : (m : Machine) (number : ℕ) → IsMachine m
    → number % length m.memory < length m.memory
rem-within m number h = let some : 0 < length m.memory = omega (arith, h.least) in omega arith

-- the place of a number is one
euclid-below : (number : ℤ) (n : ℕ) → 0 < n → unsigned_abs (int_rem_euclid number (pos n)) < n
euclid-below (pos a) n some = omega arith
euclid-below (negsuc a) n some = omega arith

-- the place of any number, a negative one too, is in memory
pub number-within : (m : Machine) (number : ℤ) → IsMachine m
    → place_of_number m number < length m.memory
number-within m number h = euclid-below number (length m.memory) (omega (arith, h.least))

-- IP is one place further, across the end
pub advanced : (m : Machine) → IsMachine m → IsMachine (with_ip_advanced m)
advanced m h = head_at m Ip (place_after m m.heads.ip) h (rem-within m (m.heads.ip + 1) h)

-- the registers hold other numbers
pub with_registers : (m : Machine) (registers : Registers) → IsMachine m
    → IsMachine (record m { registers = registers })
with_registers m registers h = with_numbers m registers m.stacks m.active h h.stacks h.ten h.active

-- the active stack holds ten other numbers
pub with_stack : (m : Machine) (numbers : List ℤ) → IsMachine m → length numbers ≡ 10
    → IsMachine (with_active_stack m numbers)
with_stack m numbers h ten =
    with_numbers m m.registers (set m.stacks m.active numbers) m.active h
    (length-set m.stacks m.active numbers ∙ h.stacks)
    (All-set (λ stack. length stack ≡ 10) m.stacks m.active numbers ten h.ten) h.active

-- the active stack has ten numbers
pub active-ten : (m : Machine) → IsMachine m → length (active_stack m) ≡ 10
active-ten m h = h.ten m.active [] (omega (arith, h.stacks, h.active))

-- a push leaves ten numbers on a stack of ten
pub pushed-ten : (number : ℤ) (stack : List ℤ) → length stack ≡ 10
    → length (pushed number stack) ≡ 10
pushed-ten number stack ten = omega (arith, length-take 9 stack)

-- a pop leaves ten numbers on a stack of ten
pub popped-ten : (stack : List ℤ) → length stack ≡ 10 → length (popped stack) ≡ 10
popped-ten stack ten = omega (arith, length-append (drop 1 stack) (pos 0 ∷ []), length-drop 1 stack)

-- IP on a modifier or a template
next_place : (m : Machine) → IsMachine m → IsMachine (on_next_place m)
next_place m h = marked (with_ip_advanced m) (advanced m h)

-- IP is on a modifier, or where it was if there is none
modifier_of-machine : (nop : Option Letter) (m : Machine) → IsMachine m
    → IsMachine (on_modifier_of nop m)
modifier_of-machine (Some nop) m h = next_place m h
modifier_of-machine None m h = h

-- IP is on the modifier after it, where there is one
pub on_modifier-machine : (m : Machine) → IsMachine m → IsMachine (on_modifier m)
unfolding on_modifier
on_modifier-machine m h = modifier_of-machine (modifier_of m) m h

-- IP is any number of places further, across the end
ip_moved : (m : Machine) (count : ℕ) → IsMachine m
    → IsMachine (with_head_at m Ip ((m.heads.ip + count) % length m.memory))
ip_moved m count h = head_at m Ip _ h (rem-within m (m.heads.ip + count) h)

-- IP is on the last of some nops, of which the first is marked
last_of-machine : (nops : List Letter) (m : Machine) → IsMachine m → IsMachine (on_last_of nops m)
last_of-machine [] m h = h
last_of-machine (nop ∷ nops) m h = ip_moved (on_next_place m) (length nops) (next_place m h)

-- IP is on the last nop of the template after it
pub on_template-machine : (m : Machine) → IsMachine m → IsMachine (on_template m)
unfolding on_template
on_template-machine m h = last_of-machine (template_of m) m h

-- IP passes over a place where a test holds
pub skipping : (test : Bool) (m : Machine) → IsMachine m → IsMachine (skipping_if test m)
skipping true m h = advanced m h
skipping false m h = h

-- the picked register holds another number, and IP is on the modifier
pub picked-machine : (m : Machine) (number : ℤ) → IsMachine m → IsMachine (with_picked m number)
picked-machine m number h = with_registers (on_modifier m) _ (on_modifier-machine m h)
