use Rattle.std.proofs.Common.{subst, sym}
use Rattle.logged_run.proofs.Prelude.{values_of, ConfigValues, IsBeginning}
use Rattle.logged_run.proofs.EndLemmas.{stopped_early}
use Rattle.logged_run.proofs.watched_run.write_watched.Goals as goal

pub returns-in_err-begun : goal.returns-in_err-begun
returns-in_err-begun g c =
    stopped_early c.args.looks (values_of c.args.config) (g.O.Sink.seen c.args.out.now)
    (g.W.Sink.seen c.args.watch.now) c.from_residual.result c.from_residual.ensures.1

pub run_beside-run-requires-clause-begun : goal.run_beside-run-requires-clause-begun
run_beside-run-requires-clause-begun g c κs within =
    subst (λ (of : ConfigValues). IsBeginning of c.in_ok-begun.begun)
    (sym c.in_ok-begun.ensures.config_is) c.in_ok-begun.ensures

pub returns : goal.returns
returns g c = rw c.in_ok-begun.ensures.config_is at c.run_beside-run.ensures
