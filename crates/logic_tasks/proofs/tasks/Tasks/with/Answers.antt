use Rattle.std.proofs.Common.{◌∙◌, ◌<◌, ap, arith, true}
use Rattle.std.proofs.Math.ListN.{set}
use Rattle.logic_tasks.proofs.TaskBitsLemmas.{place_of-small, with_bit-small, tasks_of-with}
use Rattle.logic_tasks.proofs.tasks.Tasks.with.Goals as goal

pub invariant_of-result : goal.invariant_of-result
invariant_of-result c =
    rw c.place.ensures (with_bit-small c.self.inside.bits c.args.task c.self.invariant)

pub returns : goal.returns
returns c =
    let small : c.place.result < 9 = omega (arith, place_of-small c.args.task) in
    tasks_of-with c.self.inside.bits c.place.result small
    ∙ ap (λ tasks. set tasks c.place.result true) c.self.view_is
    ∙ ap (λ n. set c.args.self n true) c.place.ensures
