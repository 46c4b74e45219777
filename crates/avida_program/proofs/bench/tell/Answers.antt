use Rattle.std.proofs.Common.{◌∙◌}
use Rattle.avida_program.proofs.Prelude.{err_from_is_err_and, nothing_written, sums_text}
use Rattle.avida_program.proofs.bench.tell.Goals as goal

pub returns-in_err-text : goal.returns-in_err-text
returns-in_err-text g c =
    let p = err_from_is_err_and c.from_residual.result c.from_residual.ensures.1 in
    rw (p.1, p.2) (nothing_written (g.O.Sink.seen c.args.out.now) (sums_text c.args.world.now.config))

pub returns : goal.returns
returns g c = rw (c.deref.ensures.value ∙ c.in_ok-text.ensures) at c.put_text.ensures
