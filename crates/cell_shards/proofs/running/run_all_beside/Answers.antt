use Rattle.std.proofs.Common.{List, subst}
use Rattle.cell_shards.proofs.Prelude.{round_numbers, AreFinished, Job}
use Rattle.cell_shards.proofs.running.run_all_beside.Goals as goal

pub returns-clause-finished : goal.returns-clause-finished
returns-clause-finished g c =
    let round = round_numbers c.args.round.now in
    subst (λ (jobs : List Job). AreFinished round jobs c.in_ok-in_order.field-0.items)
    c.in_ok-pool.ensures.0 (c.in_ok-in_order.ensures round c.in_ok-done.ensures.done)
