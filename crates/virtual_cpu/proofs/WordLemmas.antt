-- The numbers of a machine keep their 32 bits.
use Rattle.std.proofs.Common.{◌≡◌, refl, ℕ, ℤ, zero, suc, pos, ◌+◌, ◌-◌, ◌<◌, ◌≤◌, Bool, true, false, inl, inr, Option, Some, None, List, [], ◌∷◌, length, take, drop, replicate, All, arith, length-take, map}
use Rattle.std.specs.Prelude.{FitsSigned, find, ◌-ℤ◌}
use Rattle.virtual_cpu.proofs.Prelude.{length-map, w32, cast_signed, int_shr, All-nil, All-cons, All-append, All-set, All-drop, All-take, All-replicate, Letter, NopA, NopB, NopC, IfNEqu, IfLess, IfLabel, MovHead, JmpHead, GetHead, SetFlow, ShiftR, Push, Pop, SwapStk, Swap, HCopy, HAlloc, HDivide, Io, HSearch, is_nop, complements_of, letter_after, template_after, Ax, Bx, Cx, Head, Ip, Read, Write, value_of, head_place, pushed, popped, top_of, Machine, IsMachine, fresh_machine, with_head_at, with_value, modifier_of, on_modifier, on_modifier_of, template_of, on_template, on_last_of, picked, value, next, skipping_if, active_stack, with_active_stack, with_picked, after_if_n_equ, after_if_less, after_set_flow, after_shift_r, after_shift_l, after_inc, after_dec, after_push, after_pop, after_swap_stk, after_swap, after_add, after_sub, after_nand, after_io, head, after_mov_head, after_jmp_head, after_get_head, after_if_label, after_h_search, with_search, with_match, with_search_for, after_h_copy, can_allocate, with_allocation, going_on, moving, allocating_if, effect_of, HoldsWords}
use Rattle.std.specs.List.{range_with_len, take_while, prefix_len}
use Rattle.std.proofs.lemmas.Bool.{cases_Bool}
use Rattle.std.proofs.lemmas.Int.{ints}
use Rattle.std.proofs.lemmas.List.FromFn.{length-range_with_len}
use Rattle.std.specs.Int.Signed.{mag_shr}
use borrow.Author.Differences.{fits_in, read_fits}
use Rattle.label_search.specs.Search.{first_match, occurs_at}
use Rattle.virtual_cpu.specs.declared.registers.Register.{Register}
use Rattle.virtual_cpu.proofs.MachineLemmas.{on_modifier-machine, on_template-machine, active-ten}

-- a signed number of 32 bits
abbrev IsWord : ℤ → Type 0
IsWord number = FitsSigned w32 number

-- a list of signed numbers of 32 bits
abbrev AreWords : List ℤ → Type 0
AreWords numbers = All (λ number. FitsSigned w32 number) numbers

-- 32 bits that are read as a signed number are a word
cast : (n : ℕ) → IsWord (cast_signed w32 n)
cast n = omega (arith, fits_in, read_fits w32 n)

-- a number of 32 bits, shifted to the right by one, has 32 bits
shifted : (number : ℤ) → IsWord number → IsWord (int_shr number 1)
shifted number h = record { sfits = omega (arith, mag_shr number 2, h.sfits) }

-- a number from 0 on that is below 2 ^ 31 has 32 bits
small : (n : ℕ) → n < 2147483648 → IsWord (pos n)
small n few = record { sfits = few }

-- the difference of two numbers below 2 ^ 16 has 32 bits
distance : (m n : ℕ) → m < 65536 → n < 65536 → IsWord (pos m -ℤ pos n)
distance m n few less = omega (arith, ints)

-- a start
pub fresh-words : (text : List Letter) (birth_length limit : ℕ)
    → HoldsWords (fresh_machine text birth_length limit)
fresh-words text birth_length limit = record {
  ax = small 0 (omega arith);
  bx = small 0 (omega arith);
  cx = small 0 (omega arith);
  stacks = All-replicate AreWords 2 (replicate 10 (pos 0))
      (All-replicate IsWord 10 (pos 0) (small 0 (omega arith)));
}

-- each register of a machine that holds words is a word
register-words : (m : Machine) (register : Register) → HoldsWords m
    → IsWord (value_of m.registers register)
register-words m Ax h = h.ax
register-words m Bx h = h.bx
register-words m Cx h = h.cx

-- a register holds another number of 32 bits
value-words : (m : Machine) (register : Register) (number : ℤ) → HoldsWords m → IsWord number
    → HoldsWords (with_value m register number)
value-words m Ax number h word = record { ax = word; bx = h.bx; cx = h.cx; stacks = h.stacks }
value-words m Bx number h word = record { ax = h.ax; bx = word; cx = h.cx; stacks = h.stacks }
value-words m Cx number h word = record { ax = h.ax; bx = h.bx; cx = word; stacks = h.stacks }

-- the active stack has other numbers of 32 bits
stack-words : (m : Machine) (numbers : List ℤ) → HoldsWords m → AreWords numbers
    → HoldsWords (with_active_stack m numbers)
stack-words m numbers h are =
    record {
      ax = h.ax;
      bx = h.bx;
      cx = h.cx;
      stacks = All-set AreWords m.stacks m.active numbers are h.stacks;
    }

-- the numbers on the active stack have 32 bits
active-words : (m : Machine) → IsMachine m → HoldsWords m → AreWords (active_stack m)
active-words m is h = h.stacks m.active [] (omega (arith, is.stacks, is.active))

-- numbers of 32 bits, and one more pushed on them
pushed-words : (number : ℤ) (stack : List ℤ) → IsWord number → AreWords stack
    → AreWords (pushed number stack)
pushed-words number stack word are =
    All-cons IsWord number (take 9 stack) word (All-take IsWord 9 stack are)

-- numbers of 32 bits after a pop, with a 0 at the bottom
popped-words : (stack : List ℤ) → AreWords stack → AreWords (popped stack)
popped-words stack are =
    All-append IsWord (drop 1 stack) (pos 0 ∷ []) (All-drop IsWord 1 stack are)
    (All-cons IsWord (pos 0) [] (small 0 (omega arith)) (All-nil IsWord))

-- the number on top of ten numbers of 32 bits
top-word : (stack : List ℤ) → length stack ≡ 10 → AreWords stack → IsWord (top_of stack)
top-word stack ten are = are 0 (pos 0) (omega arith)

-- IP on an operand
modifier_of-words : (nop : Option Letter) (m : Machine) → HoldsWords m
    → HoldsWords (on_modifier_of nop m)
modifier_of-words (Some nop) m h = record { ax = h.ax; bx = h.bx; cx = h.cx; stacks = h.stacks }
modifier_of-words None m h = h

-- numbers keep their 32 bits where IP goes on to the modifier after it
modifier-words : (m : Machine) → HoldsWords m → HoldsWords (on_modifier m)
unfolding on_modifier
modifier-words m h = modifier_of-words (modifier_of m) m h

-- numbers keep their 32 bits where IP goes on to the last of some nops
last_of-words : (nops : List Letter) (m : Machine) → HoldsWords m → HoldsWords (on_last_of nops m)
last_of-words [] m h = h
last_of-words (nop ∷ nops) m h = record { ax = h.ax; bx = h.bx; cx = h.cx; stacks = h.stacks }

-- numbers keep their 32 bits where IP goes on to the last nop of the template after it
template-words : (m : Machine) → HoldsWords m → HoldsWords (on_template m)
unfolding on_template
template-words m h = last_of-words (template_of m) m h

-- numbers keep their 32 bits whether a place is passed over or not
skipping-words : (test : Bool) (m : Machine) → HoldsWords m → HoldsWords (skipping_if test m)
skipping-words true m h = record { ax = h.ax; bx = h.bx; cx = h.cx; stacks = h.stacks }
skipping-words false m h = h

-- the picked register holds another number of 32 bits
picked-words : (m : Machine) (number : ℤ) → HoldsWords m → IsWord number
    → HoldsWords (with_picked m number)
picked-words m number h word =
    value-words (on_modifier m) (picked m) number (modifier-words m h) word

-- what a register holds, with IP on the modifier, has 32 bits
held : (m : Machine) (register : Register) → HoldsWords m → IsWord (value m register)
held m register h = register-words (on_modifier m) register (modifier-words m h)

-- a number that is found in a range is below the end of the range
pub found-below : (test : ℕ → Bool) (low n step : ℕ)
    → find test (range_with_len low n) ≡ Some step → step < low + n
found-below test low zero step found = absurd cc
found-below test low (suc n) step found = elim (cases_Bool (test low)) [
  | inl here ↦ let same : Some low ≡ Some step = rw here at found in
      let is : low ≡ step = cc in omega arith
  | inr not ↦ let lt = found-below test (low + 1) n step (rw not at found) in omega arith
]

-- each head is at a place below 8192
place-small : (m : Machine) → IsMachine m → (head : Head) → head_place m.heads head < 8192
place-small m is Ip = omega (arith, is.ip, is.greatest, is.limit)
place-small m is Read = omega (arith, is.read, is.greatest, is.limit)
place-small m is Write = omega (arith, is.write, is.greatest, is.limit)

-- numbers keep their 32 bits where BX gets such a number and CX one up to 10
search-words : (m : Machine) (flow : ℕ) (bx : ℤ) (cx : ℕ) → HoldsWords m → IsWord bx → cx ≤ 10
    → HoldsWords (with_search m flow bx cx)
search-words m flow bx cx h word few =
    record { ax = h.ax; bx = word; cx = small cx (omega arith); stacks = h.stacks }

-- a search for at most ten nops keeps the 32 bits, where a match is at a place below 8192
match-words : (m : Machine) (count : ℕ) (first : Option ℕ) → IsMachine m → HoldsWords m → count ≤ 10
    → ((place : ℕ) → first ≡ Some place → place < 8192) → HoldsWords (with_match m count first)
match-words m count (Some place) is h few low =
    let lt : place < 8192 = low place refl in
    search-words m _ _ count h
    (distance (place + count - 1) m.heads.ip (omega arith) (omega (arith, place-small m is Ip)))
    few
match-words m count None is h few low = search-words m _ (pos 0) count h (small 0 (omega arith)) few

-- a search for a template of at most ten nops keeps the 32 bits
search_for-words : (m : Machine) (nops : List Letter) → IsMachine m → HoldsWords m
    → length nops ≤ 10 → HoldsWords (with_search_for m nops)
search_for-words m [] is h few = search-words m _ (pos 0) 0 h (small 0 (omega arith)) (omega arith)
search_for-words m (nop ∷ nops) is h few =
    match-words m (length (nop ∷ nops)) (first_match m.memory (complements_of (nop ∷ nops))) is h
    few
    (λ place found. let lt : place < 0 + length m.memory =
    found-below (occurs_at m.memory (complements_of (nop ∷ nops))) 0 (length m.memory) place
    found in omega (arith, is.greatest, is.limit))

-- what is taken of a list is no longer than the list
take_while-few : (test : Letter → Bool) (xs : List Letter) → length (take_while test xs) ≤ length xs
take_while-few test xs = omega (arith, length-take (prefix_len test xs) xs)

-- the template after IP has at most ten nops
template-few : (m : Machine) → length (template_of m) ≤ 10
unfolding template_of template_after
template-few m = omega (
  arith,
  take_while-few is_nop (map (letter_after m.memory m.heads.ip) (range_with_len 1 10)),
  length-map (range_with_len 1 10) (letter_after m.memory m.heads.ip),
  length-range_with_len 1 10,
)

-- the rows
moving-words : (head : Head) (m : Machine) → HoldsWords m → HoldsWords (moving head m).0
moving-words Ip m h = h
moving-words Read m h = record { ax = h.ax; bx = h.bx; cx = h.cx; stacks = h.stacks }
moving-words Write m h = record { ax = h.ax; bx = h.bx; cx = h.cx; stacks = h.stacks }

-- numbers keep their 32 bits after h-alloc: the old length of memory has 32 bits too
allocating-words : (test : Bool) (m : Machine) → IsMachine m → HoldsWords m
    → HoldsWords (allocating_if test m).0
unfolding with_allocation
allocating-words true m is h =
    record {
      ax = small (length m.memory) (omega (arith, is.greatest, is.limit));
      bx = h.bx;
      cx = h.cx;
      stacks = h.stacks;
    }
allocating-words false m is h = record { ax = h.ax; bx = h.bx; cx = h.cx; stacks = h.stacks }

-- IP advances
advanced-words : (m : Machine) → HoldsWords m → HoldsWords (going_on m).0
advanced-words m h = record { ax = h.ax; bx = h.bx; cx = h.cx; stacks = h.stacks }

-- numbers keep their 32 bits where a head is at another place
head-words : (m : Machine) (which : Head) (place : ℕ) → HoldsWords m
    → HoldsWords (with_head_at m which place)
head-words m which place h = record { ax = h.ax; bx = h.bx; cx = h.cx; stacks = h.stacks }

-- each row keeps the 32 bits, where the input has 32 bits
pub effect-words : (letter : Letter) (m : Machine) (input : ℤ) (copy : Option Letter) → IsMachine m
    → HoldsWords m → IsWord input → HoldsWords (effect_of letter m input copy).0
unfolding after_if_n_equ after_if_less after_set_flow after_shift_r after_shift_l after_inc
    after_dec after_push after_pop after_swap_stk after_swap after_add after_sub after_nand after_io
    after_mov_head after_jmp_head after_get_head after_if_label after_h_search after_h_copy
effect-words NopA m input copy is h word = advanced-words m h
effect-words NopB m input copy is h word = advanced-words m h
effect-words NopC m input copy is h word = advanced-words m h
effect-words HDivide m input copy is h word = advanced-words m h
effect-words SwapStk m input copy is h word =
    record { ax = h.ax; bx = h.bx; cx = h.cx; stacks = h.stacks }
effect-words HCopy m input copy is h word =
    record { ax = h.ax; bx = h.bx; cx = h.cx; stacks = h.stacks }
effect-words HAlloc m input copy is h word = allocating-words (can_allocate m) m is h
effect-words IfNEqu m input copy is h word =
    advanced-words (after_if_n_equ m) (skipping-words _ (on_modifier m) (modifier-words m h))
effect-words IfLess m input copy is h word =
    advanced-words (after_if_less m) (skipping-words _ (on_modifier m) (modifier-words m h))
effect-words IfLabel m input copy is h word =
    advanced-words (after_if_label m) (skipping-words _ (on_template m) (template-words m h))
effect-words SetFlow m input copy is h word =
    let k = modifier-words m h in record { ax = k.ax; bx = k.bx; cx = k.cx; stacks = k.stacks }
effect-words ShiftR m input copy is h word =
    advanced-words (after_shift_r m)
    (picked-words m _ h (shifted (value m (picked m)) (held m (picked m) h)))
effect-words Io m input copy is h word =
    advanced-words (after_io m input) (picked-words m input h word)
effect-words Swap m input copy is h word =
    advanced-words (after_swap m)
    (value-words (with_picked m (value m (next m))) (next m) (value m (picked m))
    (picked-words m (value m (next m)) h (held m (next m) h)) (held m (picked m) h))
effect-words Push m input copy is h word =
    let n : Machine = on_modifier m in
    let k : HoldsWords n = modifier-words m h in
    advanced-words (after_push m)
    (stack-words n (pushed (value m (picked m)) (active_stack n)) k
    (pushed-words (value m (picked m)) (active_stack n) (held m (picked m) h)
    (active-words n (on_modifier-machine m is) k)))
effect-words Pop m input copy is h word =
    let n : Machine = on_modifier m in
    let k : HoldsWords n = modifier-words m h in
    let i : IsMachine n = on_modifier-machine m is in
    let are : AreWords (active_stack n) = active-words n i k in
    advanced-words (after_pop m)
    (value-words (with_active_stack n (popped (active_stack n))) (picked m)
    (top_of (active_stack n))
    (stack-words n (popped (active_stack n)) k (popped-words (active_stack n) are))
    (top-word (active_stack n) (active-ten n i) are))
effect-words MovHead m input copy is h word =
    moving-words (head m) (after_mov_head m)
    (head-words (on_modifier m) (head m) _ (modifier-words m h))
effect-words JmpHead m input copy is h word =
    advanced-words (after_jmp_head m) (head-words (on_modifier m) (head m) _ (modifier-words m h))
effect-words GetHead m input copy is h word =
    let low : head_place (on_modifier m).heads (head m) < 8192 =
    place-small (on_modifier m) (on_modifier-machine m is) (head m) in
    advanced-words (after_get_head m)
    (value-words (on_modifier m) Cx _ (modifier-words m h) (small _ (omega arith)))
effect-words HSearch m input copy is h word =
    advanced-words (after_h_search m)
    (search_for-words (on_template m) (template_of m) (on_template-machine m is)
    (template-words m h) (template-few m))
effect-words _ m input copy is h word =
    advanced-words (with_picked m _) (picked-words m _ h (cast _))
