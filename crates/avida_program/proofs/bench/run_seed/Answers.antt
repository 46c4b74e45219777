use Rattle.std.proofs.Common.{subst}
use Rattle.std.specs.Prelude.{IfOk}
use Rattle.avida_program.proofs.Prelude.{err_from_is_err_and, ConfigValues, IsFinalWorld, bench_text, nothing_written}
use Rattle.avida_program.proofs.bench.run_seed.Goals as goal

pub returns-in_err-config-clause-text : goal.returns-in_err-config-clause-text
returns-in_err-config-clause-text g c =
    let p = err_from_is_err_and c.from_residual.result c.from_residual.ensures.1 in
    rw (p.1, p.2) (nothing_written (g.O.Sink.seen c.args.out.now) (bench_text c.args.seed))

pub returns-clause-world : goal.returns-clause-world
returns-clause-world g c =
    subst (λ (config : ConfigValues). IfOk c.run_and_tell.result (IsFinalWorld config))
    c.in_ok-config.ensures c.run_and_tell.ensures.world

pub returns-clause-text : goal.returns-clause-text
returns-clause-text g c = rw c.in_ok-config.ensures at c.run_and_tell.ensures.text
