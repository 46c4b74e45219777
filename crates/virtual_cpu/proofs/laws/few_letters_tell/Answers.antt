use Rattle.std.proofs.Common.{◌≢◌, refl, ℤ, Bool, true, false, Option}
use Rattle.virtual_cpu.proofs.Prelude.{Letter, MovHead, HAlloc, HDivide, Io, Head, Ip, Read, Write, can_allocate, allocating_if, effect_of, moving, head, after_mov_head, Machine, TellsNothing}
use Rattle.virtual_cpu.proofs.laws.few_letters_tell.Goals as goal

moved : (which : Head) (m : Machine) → TellsNothing (moving which m).1
moved Ip m = tt
moved Read m = tt
moved Write m = tt

allocated : (can : Bool) (m : Machine) → TellsNothing (allocating_if can m).1
allocated true m = tt
allocated false m = tt

quiet : (letter : Letter) (m : Machine) (input : ℤ) (copy : Option Letter)
    → letter ≢ Io → letter ≢ HDivide → TellsNothing (effect_of letter m input copy).1
quiet Io m input copy io divide = absurd (io refl)
quiet HDivide m input copy io divide = absurd (divide refl)
quiet MovHead m input copy io divide = moved (head m) (after_mov_head m)
quiet HAlloc m input copy io divide = allocated (can_allocate m) m
quiet _ m input copy io divide = tt

pub returns : goal.returns
returns c = quiet
