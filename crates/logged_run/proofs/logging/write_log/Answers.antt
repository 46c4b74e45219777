use Rattle.logged_run.proofs.Prelude.{err_from_is_err_and, stopped_same, writes_same}
use Rattle.logged_run.proofs.logging.write_log.Goals as goal

pub returns-in_err-world-clause-text : goal.returns-in_err-world-clause-text
returns-in_err-world-clause-text g c =
    let p = err_from_is_err_and c.from_residual.result c.from_residual.ensures.1 in
    rw (p.1, p.2) (stopped_same c.in_err-world.ensures.text)

pub returns-clause-world : goal.returns-clause-world
returns-clause-world g c = c.in_ok-world.ensures.ended.final

pub returns-clause-text : goal.returns-clause-text
returns-clause-text g c = writes_same c.in_ok-world.ensures.text
