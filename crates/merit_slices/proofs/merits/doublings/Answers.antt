use Rattle.std.proofs.Common.{◌≡◌, ◌∙◌, arith}
use Rattle.merit_slices.specs.Merit.{exponent_sum}
use Rattle.merit_slices.proofs.MeritLemmas.{exponent_sum-le, exponent_sum-all}
use Rattle.merit_slices.proofs.merits.doublings.Goals as goal

pub returns-clause-sum : goal.returns-clause-sum
returns-clause-sum c =
    c.loop-task.invariant.sum ∙ exponent_sum-all c.args.tasks c.loop-task.task-index (omega arith)

pub returns-clause-bounded : goal.returns-clause-bounded
returns-clause-bounded c =
    let sum : c.loop-task.sum ≡ exponent_sum c.args.tasks = c.loop-task.invariant.sum
    ∙ exponent_sum-all c.args.tasks c.loop-task.task-index (omega arith) in
    omega (arith, exponent_sum-le c.args.tasks)
