use Rattle.std.proofs.Common.{All, subst, sym}
use Rattle.cell_shards.proofs.Prelude.{All-push, round_numbers, HasRun}
use Rattle.cell_shards.proofs.running.run_if_free.Goals as goal

pub returns-clause-done : goal.returns-clause-done
returns-clause-done g c before =
    let runs = HasRun (round_numbers c.args.round.now) c.args.pool.now.jobs in
    subst (All runs) (sym c.in_ok-push.ensures.items)
    (All-push runs c.args.done.now.items _ before
    (c.in-Some.job, c.in-Some.ensures.job, c.in_ok-finished.ensures))
