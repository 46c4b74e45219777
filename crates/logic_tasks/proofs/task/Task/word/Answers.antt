use Rattle.std.proofs.Common.{arith, ◌∙◌, ap, not, ◌&&◌, ◌||◌, bit_or}
use Rattle.std.specs.Int.RustNames.{bit_xor}
use Rattle.std.specs.Int.Bits.{and_lt}
use Rattle.std.proofs.lemmas.Nat.{or_lt, xor_lt}
use Rattle.logic_tasks.specs.LogicTasks.{has_bit}
use Rattle.logic_tasks.proofs.BitLemmas.{has_bit-not, has_bit-and, has_bit-or, has_bit-xor}
use Rattle.logic_tasks.proofs.task.Task.word.Goals as goal

pub returns-in-Not : goal.returns-in-Not
returns-in-Not c k within = rw c.in-Not.is (has_bit-not c.args.x k (omega arith) within)

pub returns-in-Nand : goal.returns-in-Nand
returns-in-Nand c k within =
    rw c.in-Nand.is (has_bit-not _ k (and_lt 32 _ _ (omega arith) (omega arith)) within
    ∙ ap not (has_bit-and c.args.x c.args.y k))

pub returns-in-And : goal.returns-in-And
returns-in-And c k within = rw c.in-And.is (has_bit-and c.args.x c.args.y k)

pub returns-in-Orn : goal.returns-in-Orn
returns-in-Orn c k within =
    rw c.in-Orn.is (has_bit-or c.args.x _ k
    ∙ ap (λ b. has_bit c.args.x k || b) (has_bit-not c.args.y k (omega arith) within))

pub returns-in-Or : goal.returns-in-Or
returns-in-Or c k within = rw c.in-Or.is (has_bit-or c.args.x c.args.y k)

pub returns-in-Andn : goal.returns-in-Andn
returns-in-Andn c k within =
    rw c.in-Andn.is (has_bit-and c.args.x _ k
    ∙ ap (λ b. has_bit c.args.x k && b) (has_bit-not c.args.y k (omega arith) within))

pub returns-in-Nor : goal.returns-in-Nor
returns-in-Nor c k within =
    rw c.in-Nor.is (has_bit-not (bit_or c.args.x c.args.y) k
    (or_lt 32 c.args.x c.args.y (omega arith) (omega arith)) within
    ∙ ap not (has_bit-or c.args.x c.args.y k))

pub returns-in-Xor : goal.returns-in-Xor
returns-in-Xor c k within = rw c.in-Xor.is (has_bit-xor c.args.x c.args.y k)

pub returns-in-Equ : goal.returns-in-Equ
returns-in-Equ c k within =
    rw c.in-Equ.is (has_bit-not (bit_xor c.args.x c.args.y) k
    (xor_lt 32 c.args.x c.args.y (omega arith) (omega arith)) within
    ∙ ap not (has_bit-xor c.args.x c.args.y k))
