use Rattle.std.proofs.Common.{◌≡◌, ◌∙◌, ap, arith, subst, sym}
use Rattle.avida_program.proofs.Prelude.{err_from_is_err_and, values_of, ConfigValues, IsEndOf, IsFinalWorld, sums_text, nothing_written, kept_holds, kept_writes}
use Rattle.avida_program.proofs.bench.run_and_tell.Goals as goal

pub tell-told-requires-clause-end : goal.tell-told-requires-clause-end
tell-told-requires-clause-end g c =
    let so = c.in_ok-world.ensures in
    subst (λ (of : ConfigValues). IsEndOf of c.in_ok-world.world c.in_ok-world.sums)
    (sym so.final.config) so

pub tell-told-requires-clause-updates : goal.tell-told-requires-clause-updates
tell-told-requires-clause-updates g c =
    let last : c.in_ok-world.world.update ≡ c.args.config.updates =
    c.in_ok-world.ensures.final.update in
    omega (arith, last, c.args.config.updates_bounds)

pub returns-in_err-world-clause-text : goal.returns-in_err-world-clause-text
returns-in_err-world-clause-text g c =
    let p = err_from_is_err_and c.from_residual.result c.from_residual.ensures.1 in
    rw (p.1, p.2) (nothing_written (g.O.Sink.seen c.args.out.now)
    (sums_text (values_of c.args.config)))

pub returns-clause-world : goal.returns-clause-world
returns-clause-world g c =
    kept_holds (IsFinalWorld (values_of c.args.config)) c.in_ok-world.world c.kept.result
    c.kept.ensures.value c.in_ok-world.ensures.final

pub returns-clause-text : goal.returns-clause-text
returns-clause-text g c =
    let told = kept_writes c.kept.ensures.ok c.kept.ensures.err c.tell-told.ensures in
    rw (ap sums_text c.in_ok-world.ensures.final.config) at told
