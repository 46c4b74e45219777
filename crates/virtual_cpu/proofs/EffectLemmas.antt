-- The effect of each letter leaves a machine.
use Rattle.std.proofs.Common.{◌≡◌, refl, sym, ◌∙◌, ap, subst, ℕ, ℤ, ◌+◌, ◌-◌, ◌*◌, ◌<◌, ◌≤◌, Bool, true, false, cond, Option, Some, None, unwrap_or, List, [], ◌∷◌, ◌++◌, length, set, replicate, All, arith, length-set, length-append, length-drop}
use Rattle.virtual_cpu.proofs.Prelude.{length-replicate, All-nil, All-push, All-drop, Letter, NopA, NopB, NopC, IfNEqu, IfLess, IfLabel, MovHead, JmpHead, GetHead, SetFlow, Push, Pop, SwapStk, Swap, HCopy, HAlloc, HDivide, HSearch, is_nop, last_ten, Head, Ip, Read, Write, Machine, IsMachine, letter_in_memory, with_flow_at, on_modifier, template_of, on_template, picked, value, next, with_active_stack, with_picked, after_if_n_equ, after_if_less, after_set_flow, after_shift_r, after_shift_l, after_inc, after_dec, after_push, after_pop, after_swap_stk, after_swap, after_add, after_sub, after_nand, after_io, head, after_mov_head, after_jmp_head, after_get_head, after_if_label, after_h_search, with_search, with_match, with_search_for, after_h_copy, extra_places, can_allocate, with_allocation, moving, allocating_if, effect_of}
use Rattle.std.proofs.lemmas.Bool.Decides.{nat_tests}
use Rattle.virtual_cpu.proofs.MachineLemmas.{with_numbers, head_at, flow_at, rem-within, number-within, advanced, with_registers, with_stack, active-ten, pushed-ten, popped-ten, on_modifier-machine, on_template-machine, skipping, picked-machine}

-- set-flow leaves a machine: FLOW is at a place of memory whatever the register holds
set_flow : (m : Machine) → IsMachine m → IsMachine (after_set_flow m)
unfolding after_set_flow
set_flow m h = flow_at (on_modifier m) _ (on_modifier-machine m h)
    (number-within (on_modifier m) _ (on_modifier-machine m h))

-- push leaves a machine: the active stack still has ten numbers
push : (m : Machine) → IsMachine m → IsMachine (after_push m)
unfolding after_push
push m h = let n = on_modifier-machine m h in
    with_stack (on_modifier m) _ n
    (pushed-ten (value m (picked m)) _ (active-ten (on_modifier m) n))

-- pop leaves a machine: the active stack still has ten numbers
pop : (m : Machine) → IsMachine m → IsMachine (after_pop m)
unfolding after_pop
pop m h = let n = on_modifier-machine m h in
    with_registers (with_active_stack (on_modifier m) _) _
    (with_stack (on_modifier m) _ n (popped-ten _ (active-ten (on_modifier m) n)))

-- swap-stk leaves a machine: the other of its two stacks is active
swap_stk : (m : Machine) → IsMachine m → IsMachine (after_swap_stk m)
unfolding after_swap_stk
swap_stk m h = with_numbers m m.registers m.stacks (1 - m.active) h h.stacks h.ten (omega arith)

-- swap leaves a machine, the picked register and the next one exchanged
swap : (m : Machine) → IsMachine m → IsMachine (after_swap m)
unfolding after_swap
swap m h =
    with_registers (with_picked m (value m (next m))) _ (picked-machine m (value m (next m)) h)

-- a machine is left by mov-head; the rows of heads follow
mov_head : (m : Machine) → IsMachine m → IsMachine (after_mov_head m)
unfolding after_mov_head
mov_head m h = let n = on_modifier-machine m h in head_at (on_modifier m) (head m) _ n n.flow

-- jmp-head leaves a machine: the head is at a place of memory whatever CX holds
jmp_head : (m : Machine) → IsMachine m → IsMachine (after_jmp_head m)
unfolding after_jmp_head
jmp_head m h = let n = on_modifier-machine m h in
    head_at (on_modifier m) (head m) _ n (number-within (on_modifier m) _ n)

-- FLOW at a place of memory, and any numbers in BX and CX, leave a machine
searched : (m : Machine) (flow : ℕ) (bx : ℤ) (cx : ℕ) → IsMachine m → flow < length m.memory
    → IsMachine (with_search m flow bx cx)
searched m flow bx cx h within = with_registers (with_flow_at m flow) _ (flow_at m flow h within)

-- a search leaves a machine, with a match or without one
matched : (m : Machine) (count : ℕ) (first : Option ℕ) → IsMachine m
    → IsMachine (with_match m count first)
matched m count (Some place) h = searched m _ _ count h (rem-within m (place + count) h)
matched m count None h = searched m _ _ count h (rem-within m (m.heads.ip + 1) h)

-- a search for any template, the empty one too, leaves a machine
searched_for : (m : Machine) (nops : List Letter) → IsMachine m → IsMachine (with_search_for m nops)
searched_for m [] h = searched m _ _ 0 h (rem-within m (m.heads.ip + 1) h)
searched_for m (nop ∷ nops) h = matched m _ _ h

-- the nops read last are at most ten
few-nops : (nop : Bool) (nops : List Letter) → length (cond nop (last_ten nops) []) ≤ 10
few-nops true nops = omega (arith, length-drop (length nops - 10) nops)
few-nops false nops = omega arith

-- a further letter leaves nops alone
only-nops : (nop : Bool) (nops : List Letter) (letter : Letter) → is_nop letter ≡ nop
    → All (λ l. is_nop l ≡ true) nops
    → All (λ l. is_nop l ≡ true) (cond nop (last_ten (nops ++ letter ∷ [])) [])
only-nops true nops letter is are =
    All-drop (λ l. is_nop l ≡ true) _ (nops ++ letter ∷ [])
    (All-push (λ l. is_nop l ≡ true) nops letter are is)
only-nops false nops letter is are = All-nil (λ l. is_nop l ≡ true)

-- h-copy
h_copy : (m : Machine) (copy : Option Letter) → IsMachine m → IsMachine (after_h_copy m copy)
unfolding after_h_copy
h_copy m copy h =
    let read : Letter = letter_in_memory m m.heads.read in
    let size : length (set m.memory m.heads.write (unwrap_or copy read)) ≡ length m.memory =
    length-set m.memory m.heads.write (unwrap_or copy read) in
    let rest : (place : ℕ) → place < length m.memory
    → place < length (set m.memory m.heads.write (unwrap_or copy read)) =
    λ place. subst (λ (n : ℕ). place < n) (sym size) in
    record {
      clean = length-set m.clean m.heads.write read ∙ h.clean ∙ sym size;
      executed = h.executed ∙ sym size;
      copied = length-set m.copied m.heads.write true ∙ h.copied ∙ sym size;
      stacks = h.stacks;
      ten = h.ten;
      active = h.active;
      template = record {
        few = few-nops (is_nop read) (m.nops ++ read ∷ []);
        nops = only-nops (is_nop read) m.nops read refl h.template.nops;
      };
      ip = rest m.heads.ip h.ip;
      read = rest _ (rem-within m (m.heads.read + 1) h);
      write = rest _ (rem-within m (m.heads.write + 1) h);
      flow = rest m.heads.flow h.flow;
      least = subst (λ (n : ℕ). 8 ≤ n) (sym size) h.least;
      greatest = subst (λ (n : ℕ). n ≤ m.limit) (sym size) h.greatest;
      growth = subst (λ (n : ℕ). n ≤ cond m.pending 6 2 * m.birth_length) (sym size) h.growth;
      birth_length = h.birth_length;
      limit = h.limit;
    }

-- h-alloc, where it can
longer : {A : Type 0} (xs : List A) (extra : ℕ) (x : A)
    → length (xs ++ replicate extra x) ≡ length xs + extra
longer xs extra x =
    length-append xs (replicate extra x) ∙ ap (λ n. length xs + n) (length-replicate extra x)

-- a machine that can allocate is still one once its memory has grown
allocated : (m : Machine) → can_allocate m ≡ true → IsMachine m → IsMachine (with_allocation m)
unfolding with_allocation
allocated m can h =
    let extra : ℕ = extra_places m in
    let size : length (m.memory ++ replicate extra NopA) ≡ length m.memory + extra =
    longer m.memory extra NopA in
    let free : m.pending ≡ false = grind (arith, nat_tests) in
    let twice : length m.memory ≤ 2 * m.birth_length = rw free at h.growth in
    let few : extra ≤ 2 * length m.memory = omega arith in
    let room : length m.memory + extra ≤ m.limit = omega (arith, h.greatest) in
    let rest : (place : ℕ) → place < length m.memory
    → place < length (m.memory ++ replicate extra NopA) = λ place within. omega (arith, size) in
    record {
      clean = longer m.clean extra NopA ∙ ap (λ n. n + extra) h.clean ∙ sym size;
      executed = longer m.executed extra false ∙ ap (λ n. n + extra) h.executed ∙ sym size;
      copied = longer m.copied extra false ∙ ap (λ n. n + extra) h.copied ∙ sym size;
      stacks = h.stacks;
      ten = h.ten;
      active = h.active;
      template = h.template;
      ip = rest m.heads.ip h.ip;
      read = rest m.heads.read h.read;
      write = rest m.heads.write h.write;
      flow = rest m.heads.flow h.flow;
      least = omega (arith, size, h.least);
      greatest = omega (arith, size, room);
      growth = omega (arith, size, few, twice);
      birth_length = h.birth_length;
      limit = h.limit;
    }

-- IP advances unless it was moved
moved : (head : Head) (m : Machine) → IsMachine m → IsMachine (moving head m).0
moved Ip m h = h
moved Read m h = advanced m h
moved Write m h = advanced m h

-- h-alloc leaves a machine, whether memory grows or not
allocating : (test : Bool) (m : Machine) → can_allocate m ≡ test → IsMachine m
    → IsMachine (allocating_if test m).0
allocating true m can h = advanced (with_allocation m) (allocated m can h)
allocating false m can h = advanced m h

-- each row leaves a machine
pub effect : (letter : Letter) (m : Machine) (input : ℤ) (copy : Option Letter) → IsMachine m
    → IsMachine (effect_of letter m input copy).0
unfolding after_if_n_equ after_if_less after_if_label after_get_head after_shift_r after_shift_l after_inc after_dec after_add after_sub after_nand after_io after_h_search
effect NopA m input copy h = advanced m h
effect NopB m input copy h = advanced m h
effect NopC m input copy h = advanced m h
effect HDivide m input copy h = advanced m h
effect IfNEqu m input copy h =
    advanced (after_if_n_equ m) (skipping _ (on_modifier m) (on_modifier-machine m h))
effect IfLess m input copy h =
    advanced (after_if_less m) (skipping _ (on_modifier m) (on_modifier-machine m h))
effect IfLabel m input copy h =
    advanced (after_if_label m) (skipping _ (on_template m) (on_template-machine m h))
effect MovHead m input copy h = moved (head m) (after_mov_head m) (mov_head m h)
effect JmpHead m input copy h = advanced (after_jmp_head m) (jmp_head m h)
effect GetHead m input copy h =
    advanced (after_get_head m) (with_registers (on_modifier m) _ (on_modifier-machine m h))
effect SetFlow m input copy h = advanced (after_set_flow m) (set_flow m h)
effect Push m input copy h = advanced (after_push m) (push m h)
effect Pop m input copy h = advanced (after_pop m) (pop m h)
effect SwapStk m input copy h = advanced (after_swap_stk m) (swap_stk m h)
effect Swap m input copy h = advanced (after_swap m) (swap m h)
effect HCopy m input copy h = advanced (after_h_copy m copy) (h_copy m copy h)
effect HAlloc m input copy h = allocating (can_allocate m) m refl h
effect HSearch m input copy h =
    advanced (after_h_search m) (searched_for (on_template m) (template_of m) (on_template-machine m h))
effect _ m input copy h = advanced (with_picked m _) (picked-machine m _ h)
