use Rattle.std.proofs.Common.{arith, ap, ◌∙◌, subst, ◌+◌}
use Rattle.std.specs.Int.{from_bool}
use Rattle.census.proofs.TaskLemmas.{HasChanged, HasChanged-more, HasChanged-all}
use Rattle.census.proofs.task_counts.raise_tasks.Goals as goal

pub loop-place-preserved : goal.loop-place-preserved
loop-place-preserved c =
    let at = c.loop-place in
    HasChanged-more (λ n by. n + by) c.args.counts.now c.args.credited at.counts at.place
    c.from.result c.loop-place-test.true at.invariant
    (c.from.ensures ∙ ap from_bool c.has.ensures)

pub returns : goal.returns
returns c =
    let at = c.loop-place in
    HasChanged-all (λ n by. n + by) c.args.counts.now c.args.credited at.counts
    (subst (HasChanged (λ n by. n + by) c.args.counts.now c.args.credited at.counts)
    (omega arith) at.invariant)
