use Rattle.std.proofs.Common.{arith}
use Rattle.std.proofs.lemmas.List.FromFn.{fill_by_all}
use Rattle.assay.specs.Assay.{seeds_with, seeds_with_each}
use Rattle.assay.proofs.tally.seeds_with_each.Goals as goal

pub returns : goal.returns
unfolding seeds_with_each
returns c =
    fill_by_all (seeds_with c.args.assays.now) c.loop-task.count-items 9 0
    c.loop-task-test.array_long
    (λ k below. c.loop-task.invariant k (omega arith))
