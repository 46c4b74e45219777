-- What instructions on registers do before IP advances (docs/MACHINE.md, "The instruction table").
use Rattle.std.specs.Prelude.{bit_and, ℤ, pos, ◌-◌, Bool, true, false, List, [], slice_index_or, slice_set, int_lt, if◌then◌else◌}
use Rattle.virtual_cpu.specs.Prelude.{w32, int_wrapping_add, int_wrapping_sub, int_shl, int_shr, cast_signed, cast_unsigned, bit_not}
use Rattle.std.specs.Ordering.{int_eq}
use Rattle.virtual_cpu.specs.declared.registers.Register.{Register}
use Rattle.virtual_cpu.specs.declared.registers.Register.TheVariants.{Bx, Cx}
use Rattle.virtual_cpu.specs.Parts.{register_after, value_of, pushed, popped, top_of}
use Rattle.virtual_cpu.specs.Machine.{Machine, place_of_number, with_flow_at, with_ip_advanced, with_value}
use Rattle.virtual_cpu.specs.Operands.{register_picked, on_modifier}

-- the register that the modifier picks, BX by default
abbrev pub picked : Machine → Register
picked m = register_picked m Bx

-- the register next to the picked one
abbrev pub next : Machine → Register
next m = register_after (picked m)

-- what a register holds
abbrev pub value : Machine → Register → ℤ
value m register = value_of (on_modifier m).registers register

-- the picked register has a value
abbrev pub with_picked : Machine → ℤ → Machine
with_picked m number = with_value (on_modifier m) (picked m) number

-- the next place is passed over where the test holds
abbrev pub skipping_if : Bool → Machine → Machine
skipping_if test m = if test then with_ip_advanced m else m

-- if-n-equ
unfoldable pub after_if_n_equ : Machine → Machine
after_if_n_equ m = skipping_if (int_eq (value m (picked m)) (value m (next m))) (on_modifier m)

-- if-less
unfoldable pub after_if_less : Machine → Machine
after_if_less m =
    skipping_if (if int_lt (value m (picked m)) (value m (next m)) then false else true)
    (on_modifier m)

-- set-flow
unfoldable pub after_set_flow : Machine → Machine
after_set_flow m =
    let n = on_modifier m in with_flow_at n (place_of_number n (value m (register_picked m Cx)))

-- shift-r
unfoldable pub after_shift_r : Machine → Machine
after_shift_r m = with_picked m (int_shr (value m (picked m)) 1)

-- shift-l
unfoldable pub after_shift_l : Machine → Machine
after_shift_l m = with_picked m (int_shl w32 (value m (picked m)) 1)

-- inc
unfoldable pub after_inc : Machine → Machine
after_inc m = with_picked m (int_wrapping_add w32 (value m (picked m)) (pos 1))

-- dec
unfoldable pub after_dec : Machine → Machine
after_dec m = with_picked m (int_wrapping_sub w32 (value m (picked m)) (pos 1))

-- the active stack
abbrev pub active_stack : Machine → List ℤ
active_stack m = slice_index_or m.stacks m.active []

-- the active stack has these numbers
abbrev pub with_active_stack : Machine → List ℤ → Machine
with_active_stack m numbers = record m { stacks = slice_set m.stacks m.active numbers }

-- push
unfoldable pub after_push : Machine → Machine
after_push m =
    with_active_stack (on_modifier m) (pushed (value m (picked m)) (active_stack (on_modifier m)))

-- pop
unfoldable pub after_pop : Machine → Machine
after_pop m =
    let n = on_modifier m in
    with_value (with_active_stack n (popped (active_stack n))) (picked m) (top_of (active_stack n))

-- swap-stk
unfoldable pub after_swap_stk : Machine → Machine
after_swap_stk m = record m { active = 1 - m.active }

-- swap
unfoldable pub after_swap : Machine → Machine
after_swap m = with_value (with_picked m (value m (next m))) (next m) (value m (picked m))

-- add
unfoldable pub after_add : Machine → Machine
after_add m = with_picked m (int_wrapping_add w32 (value m Bx) (value m Cx))

-- sub
unfoldable pub after_sub : Machine → Machine
after_sub m = with_picked m (int_wrapping_sub w32 (value m Bx) (value m Cx))

-- not (x and y), bit by bit
abbrev pub nand_of : ℤ → ℤ → ℤ
nand_of x y = cast_signed w32 (bit_not w32 (bit_and (cast_unsigned w32 x) (cast_unsigned w32 y)))

-- nand
unfoldable pub after_nand : Machine → Machine
after_nand m = with_picked m (nand_of (value m Bx) (value m Cx))

-- IO, whose input goes into the picked register
unfoldable pub after_io : Machine → ℤ → Machine
after_io m input = with_picked m input

-- what IO puts out
unfoldable pub output_of : Machine → ℤ
output_of m = value m (picked m)
