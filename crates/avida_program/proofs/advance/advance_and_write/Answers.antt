use Rattle.std.proofs.Common.{subst}
use Rattle.avida_program.proofs.Prelude.{err_from_is_err_and, SavedState, saved_text, WritesAll, nothing_written, advanced_text}
use Rattle.avida_program.proofs.advance.advance_and_write.Goals as goal

pub returns-in_err-after : goal.returns-in_err-after
returns-in_err-after g c =
    let p = err_from_is_err_and c.from_residual.result c.from_residual.ensures.1 in
    rw (p.1, p.2) (nothing_written (g.O.Sink.seen c.args.out.now)
    (advanced_text c.args.state c.args.more))

pub returns : goal.returns
returns g c =
    subst (λ (s : SavedState). WritesAll {T = Unit {0}} (g.O.Sink.seen c.args.out.now)
    (g.O.Sink.seen c.write_state-written.new.out) (saved_text s) c.write_state-written.result)
    c.in_ok-after.ensures c.write_state-written.ensures
