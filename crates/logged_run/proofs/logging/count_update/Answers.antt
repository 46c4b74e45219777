use Rattle.logged_run.proofs.Prelude.{err_from_is_err_and, stopped_same, writes_same}
use Rattle.logged_run.proofs.SumLemmas.{sums_more, sums_small}
use Rattle.logged_run.proofs.logging.count_update.Goals as goal

pub returns-in_err-next-clause-text : goal.returns-in_err-next-clause-text
returns-in_err-next-clause-text g c =
    let p = err_from_is_err_and c.from_residual.result c.from_residual.ensures.1 in
    rw (p.1, p.2) (stopped_same c.in_err-next.ensures.text)

pub with-sums-requires : goal.with-sums-requires
with-sums-requires g c =
    sums_small c.args.world.config c.args.world.update c.args.sums c.requires.update
    c.requires.sums

pub returns-clause-sums : goal.returns-clause-sums
returns-clause-sums g c =
    let next = c.in_ok-next.ensures in
    sums_more c.args.world.config c.args.world.update c.in_ok-next.next c.args.sums
    c.with-sums.result c.stats.result c.in_ok-next.bytes c.requires.sums next.world
    c.stats.ensures next.bytes c.with-sums.ensures

pub returns-clause-text : goal.returns-clause-text
returns-clause-text g c = writes_same c.in_ok-next.ensures.text
