use Rattle.std.proofs.Common.{◌∙◌, ap}
use Rattle.logged_run.proofs.Prelude.{err_from_is_err_and, WorldValue, stopped_same, wanting_after, writes_same}
use Rattle.logged_run.proofs.publishing.write_next.Goals as goal

pub returns-in_err-running-clause-text : goal.returns-in_err-running-clause-text
returns-in_err-running-clause-text g c =
    let p = err_from_is_err_and c.from_residual.result c.from_residual.ensures.1 in
    rw (p.1, p.2) (stopped_same (rw c.into_running.ensures at c.in_err-running.ensures.text))

pub returns-in_err-into_world-clause-text : goal.returns-in_err-into_world-clause-text
returns-in_err-into_world-clause-text g c =
    let p = err_from_is_err_and c.from_residual-in_err-into_world.result
    c.from_residual-in_err-into_world.ensures.1 in
    rw (p.1, p.2) (wanting_after (rw c.into_running.ensures at c.in_ok-running.ensures.text))

pub returns-clause-world : goal.returns-clause-world
returns-clause-world g c =
    let next = rw c.into_running.ensures at c.in_ok-running.ensures.world in
    record {
      config = ap (λ (w : WorldValue). w.config) c.in_ok-into_world.ensures ∙ next.config;
      update = ap (λ (w : WorldValue). w.update) c.in_ok-into_world.ensures ∙ next.update;
    }

pub returns-clause-text : goal.returns-clause-text
returns-clause-text g c =
    writes_same (rw c.into_running.ensures at c.in_ok-running.ensures.text)
