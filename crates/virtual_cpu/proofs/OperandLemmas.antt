-- Each letter takes the operand of its row.
use Rattle.std.proofs.Common.{◌≡◌, refl, pos, ◌+◌, ◌%◌, ◌+ℤ◌, Bool, true, false, cond, length}
use Rattle.std.specs.Prelude.{int_lt}
use Rattle.virtual_cpu.proofs.Prelude.{w32, int_wrapping_add, int_wrapping_sub, int_shl, int_shr, Letter, NopA, NopB, NopC, IfNEqu, IfLess, IfLabel, MovHead, JmpHead, GetHead, SetFlow, ShiftR, ShiftL, Inc, Dec, Push, Pop, SwapStk, Swap, Add, Sub, Nand, HCopy, HAlloc, HDivide, Io, HSearch, complements_of, Bx, Cx, register_after, value_of, head_place, pushed, popped, top_of, Machine, place_of_number, with_head_at, with_flow_at, with_value, skipping_if, active_stack, with_active_stack, nand_of, after_if_n_equ, after_if_less, after_set_flow, after_shift_r, after_shift_l, after_inc, after_dec, after_push, after_pop, after_swap_stk, after_swap, after_add, after_sub, after_nand, after_io, output_of, after_mov_head, after_jmp_head, after_get_head, after_if_label, after_h_search, with_search_for, after_h_copy, can_allocate, with_allocation, telling, going_on, moving, allocating_if}
use Rattle.std.specs.Ordering.{int_eq}
use Rattle.instruction_set.specs.Letter.{class_of, same_letters}
use Rattle.instruction_set.specs.Defaults.{default_of}
use Rattle.virtual_cpu.specs.declared.step_answer.StepAnswer.TheVariants.{Output}
use Rattle.virtual_cpu.specs.OperandUse.{TakesOperand}

-- after h-alloc IP is one place further in the memory there is then, grown or not
allocation-passes : (test : Bool) (m : Machine)
    → (allocating_if test m).0.heads.ip ≡ (m.heads.ip + 1) % length (allocating_if test m).0.memory
unfolding with_allocation
allocation-passes true m = refl
allocation-passes false m = refl

-- each letter takes the operand of its class, with the default of its row
pub takes_operand : (letter : Letter) → TakesOperand (default_of letter) (class_of letter) letter
unfolding after_if_n_equ after_if_less after_set_flow after_shift_r after_shift_l after_inc
    after_dec after_push after_pop after_swap_stk after_swap after_add after_sub after_nand after_io
    output_of after_mov_head after_jmp_head after_get_head after_if_label after_h_search
    after_h_copy
takes_operand NopA = λ m input copy. refl
takes_operand NopB = λ m input copy. refl
takes_operand NopC = λ m input copy. refl
takes_operand SwapStk = λ m input copy. refl
takes_operand HCopy = λ m input copy. refl
takes_operand HDivide = λ m input copy. refl
takes_operand HAlloc = λ m input copy. allocation-passes (can_allocate m) m
takes_operand IfNEqu = record {
  act = λ n r input. going_on
      (skipping_if (int_eq (value_of n.registers r) (value_of n.registers (register_after r))) n);
  is = λ m input copy. refl;
}
takes_operand IfLess = record {
  act = λ n r input. going_on
      (skipping_if (cond (int_lt (value_of n.registers r) (value_of n.registers (register_after r)))
      false true) n);
  is = λ m input copy. refl;
}
takes_operand SetFlow = record {
  act = λ n r input. going_on (with_flow_at n (place_of_number n (value_of n.registers r)));
  is = λ m input copy. refl;
}
takes_operand ShiftR = record {
  act = λ n r input. going_on (with_value n r (int_shr (value_of n.registers r) 1));
  is = λ m input copy. refl;
}
takes_operand ShiftL = record {
  act = λ n r input. going_on (with_value n r (int_shl w32 (value_of n.registers r) 1));
  is = λ m input copy. refl;
}
takes_operand Inc = record {
  act = λ n r input. going_on
      (with_value n r (int_wrapping_add w32 (value_of n.registers r) (pos 1)));
  is = λ m input copy. refl;
}
takes_operand Dec = record {
  act = λ n r input. going_on
      (with_value n r (int_wrapping_sub w32 (value_of n.registers r) (pos 1)));
  is = λ m input copy. refl;
}
takes_operand Push = record {
  act = λ n r input. going_on
      (with_active_stack n (pushed (value_of n.registers r) (active_stack n)));
  is = λ m input copy. refl;
}
takes_operand Pop = record {
  act = λ n r input. going_on
      (with_value (with_active_stack n (popped (active_stack n))) r (top_of (active_stack n)));
  is = λ m input copy. refl;
}
takes_operand Swap = record {
  act = λ n r input. going_on
      (with_value (with_value n r (value_of n.registers (register_after r))) (register_after r)
      (value_of n.registers r));
  is = λ m input copy. refl;
}
takes_operand Add = record {
  act = λ n r input. going_on
      (with_value n r (int_wrapping_add w32 (value_of n.registers Bx) (value_of n.registers Cx)));
  is = λ m input copy. refl;
}
takes_operand Sub = record {
  act = λ n r input. going_on
      (with_value n r (int_wrapping_sub w32 (value_of n.registers Bx) (value_of n.registers Cx)));
  is = λ m input copy. refl;
}
takes_operand Nand = record {
  act = λ n r input. going_on
      (with_value n r (nand_of (value_of n.registers Bx) (value_of n.registers Cx)));
  is = λ m input copy. refl;
}
takes_operand Io = record {
  act = λ n r input. telling (Output (value_of n.registers r)) (with_value n r input);
  is = λ m input copy. refl;
}
takes_operand MovHead =
    record { act = λ n h. moving h (with_head_at n h n.heads.flow); is = λ m input copy. refl }
takes_operand JmpHead = record {
  act = λ n h. going_on (with_head_at n h
      (place_of_number n (pos (head_place n.heads h) +ℤ value_of n.registers Cx)));
  is = λ m input copy. refl;
}
takes_operand GetHead = record {
  act = λ n h. going_on (with_value n Cx (pos (head_place n.heads h)));
  is = λ m input copy. refl;
}
takes_operand IfLabel = record {
  act = λ n nops. going_on
      (skipping_if (cond (same_letters n.nops (complements_of nops)) false true) n);
  is = λ m input copy. refl;
}
takes_operand HSearch =
    record { act = λ n nops. going_on (with_search_for n nops); is = λ m input copy. refl }
