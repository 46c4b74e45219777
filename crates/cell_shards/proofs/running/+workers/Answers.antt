use Rattle.std.proofs.Common.{All, subst, sym}
use Rattle.cell_shards.proofs.Prelude.{All-append, IfOk-at_ok, round_numbers, HasRun}
use Rattle.cell_shards.proofs.running.+workers.Goals as goal

pub returns-clause-done : goal.returns-clause-done
returns-clause-done g t c =
    let runs = HasRun (round_numbers c.args.round.now) c.args.pool.now.jobs in
    let others = IfOk-at_ok _ c.in_ok-done-2.was c.join-last.ensures.second in
    let last = IfOk-at_ok (λ done. All runs done.items) c.in_ok-last.was
    c.join-last.ensures.first in
    subst (All runs) (sym c.in_ok-both.ensures) (All-append runs _ _ others.0 last)
