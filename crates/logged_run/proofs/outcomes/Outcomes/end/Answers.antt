use Rattle.std.proofs.Common.{refl}
use Rattle.logged_run.proofs.Prelude.{err_from_is_err_and}
use Rattle.logged_run.proofs.outcomes.Outcomes.end.Goals as goal

pub returns-in_err-progress : goal.returns-in_err-progress
returns-in_err-progress g c =
    let p = err_from_is_err_and c.from_residual.result c.from_residual.ensures.1 in
    rw (p.1, p.2, c.in_err-progress.was) (refl, refl)

pub returns-in-Err : goal.returns-in-Err
returns-in-Err g c = rw (c.in_ok-progress.was, c.in-Err.is) (refl, refl)

pub end_watched-requires : goal.end_watched-requires
end_watched-requires g c = rw (c.in-Ok.is, c.in_ok-progress.was) at c.requires

pub returns-in-Ok : goal.returns-in-Ok
returns-in-Ok g c = rw (c.in_ok-progress.was, c.in-Ok.is) c.end_watched.ensures
