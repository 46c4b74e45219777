-- The question of a divide is the machine's.
use Rattle.std.proofs.Common.{◌≡◌, refl, ℤ, Bool, true, false, Option}
use Rattle.virtual_cpu.proofs.Prelude.{Letter, MovHead, HAlloc, HDivide, Head, Ip, Read, Write, Machine, with_ip_advanced, head, after_mov_head, can_allocate, divide_question, moving, allocating_if, effect_of, AsksOf}

-- the advance leaves the question
asked : (m : Machine) → divide_question m ≡ divide_question (with_ip_advanced m)
unfolding divide_question
asked m = refl

-- a move of a head asks nothing, whether IP advances or not
moving-asks : (head : Head) (m : Machine) → AsksOf (moving head m).0 (moving head m).1
moving-asks Ip m = tt
moving-asks Read m = tt
moving-asks Write m = tt

-- h-alloc asks nothing, whether memory grows or not
allocating-asks : (test : Bool) (m : Machine)
    → AsksOf (allocating_if test m).0 (allocating_if test m).1
allocating-asks true m = tt
allocating-asks false m = tt

-- the one row that asks
pub effect-asks : (letter : Letter) (m : Machine) (input : ℤ) (copy : Option Letter)
    → AsksOf (effect_of letter m input copy).0 (effect_of letter m input copy).1
effect-asks HDivide m input copy = asked m
effect-asks MovHead m input copy = moving-asks (head m) (after_mov_head m)
effect-asks HAlloc m input copy = allocating-asks (can_allocate m) m
effect-asks _ m input copy = tt
