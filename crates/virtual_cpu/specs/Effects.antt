-- What each letter does and answers: one row a letter (docs/MACHINE.md, "The instruction table").
use Rattle.std.specs.Prelude.{ℤ, Bool, true, false, Option}
use Rattle.virtual_cpu.specs.Prelude.{Letter, NopA, NopB, NopC, IfNEqu, IfLess, IfLabel, MovHead, JmpHead, GetHead, SetFlow, ShiftR, ShiftL, Inc, Dec, Push, Pop, SwapStk, Swap, Add, Sub, Nand, HCopy, HAlloc, HDivide, Io, HSearch}
use Rattle.virtual_cpu.specs.declared.heads.Head.{Head}
use Rattle.virtual_cpu.specs.declared.heads.Head.TheVariants.{Ip}
use Rattle.virtual_cpu.specs.declared.step_answer.StepAnswer.{StepAnswer}
use Rattle.virtual_cpu.specs.declared.step_answer.StepAnswer.TheVariants.{Plain, Copied, Output, Asks, Allocated}
use Rattle.virtual_cpu.specs.Machine.{Machine, with_ip_advanced}
use Rattle.virtual_cpu.specs.RegisterEffects.{after_if_n_equ, after_if_less, after_set_flow, after_shift_r, after_shift_l, after_inc, after_dec, after_push, after_pop, after_swap_stk, after_swap, after_add, after_sub, after_nand, after_io, output_of}
use Rattle.virtual_cpu.specs.HeadEffects.{head, after_mov_head, after_jmp_head, after_get_head, after_if_label, after_h_search}
use Rattle.virtual_cpu.specs.Replication.{after_h_copy, can_allocate, with_allocation, divide_question}

-- IP advances, with an answer
abbrev pub telling : StepAnswer → Machine → Machine × StepAnswer
telling did m = (with_ip_advanced m, did)

-- IP advances, and nothing is told
abbrev pub going_on : Machine → Machine × StepAnswer
going_on m = telling Plain m

-- IP advances unless it is the head that was moved
abbrev pub moving : Head → Machine → Machine × StepAnswer
moving Ip m = (m, Plain)
moving _ m = going_on m

-- memory grows where it can
abbrev pub allocating_if : Bool → Machine → Machine × StepAnswer
allocating_if true m = telling Allocated (with_allocation m)
allocating_if false m = going_on m

-- the row of each letter
abbrev pub effect_of : Letter → Machine → ℤ → Option Letter → Machine × StepAnswer
effect_of NopA m input copy = going_on m
effect_of NopB m input copy = going_on m
effect_of NopC m input copy = going_on m
effect_of IfNEqu m input copy = going_on (after_if_n_equ m)
effect_of IfLess m input copy = going_on (after_if_less m)
effect_of IfLabel m input copy = going_on (after_if_label m)
effect_of MovHead m input copy = moving (head m) (after_mov_head m)
effect_of JmpHead m input copy = going_on (after_jmp_head m)
effect_of GetHead m input copy = going_on (after_get_head m)
effect_of SetFlow m input copy = going_on (after_set_flow m)
effect_of ShiftR m input copy = going_on (after_shift_r m)
effect_of ShiftL m input copy = going_on (after_shift_l m)
effect_of Inc m input copy = going_on (after_inc m)
effect_of Dec m input copy = going_on (after_dec m)
effect_of Push m input copy = going_on (after_push m)
effect_of Pop m input copy = going_on (after_pop m)
effect_of SwapStk m input copy = going_on (after_swap_stk m)
effect_of Swap m input copy = going_on (after_swap m)
effect_of Add m input copy = going_on (after_add m)
effect_of Sub m input copy = going_on (after_sub m)
effect_of Nand m input copy = going_on (after_nand m)
effect_of HCopy m input copy = telling Copied (after_h_copy m copy)
effect_of HAlloc m input copy = allocating_if (can_allocate m) m
effect_of HDivide m input copy = telling (Asks (divide_question m)) m
effect_of Io m input copy = telling (Output (output_of m)) (after_io m input)
effect_of HSearch m input copy = going_on (after_h_search m)
