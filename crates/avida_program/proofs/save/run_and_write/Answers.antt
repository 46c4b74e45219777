use Rattle.std.proofs.Common.{◌≡◌, ◌∙◌, ap, subst}
use Rattle.avida_program.proofs.Prelude.{err_from_is_err_and, SavedState, state_of, saved_text, values_of, WritesAll, nothing_written, save_text}
use Rattle.avida_program.proofs.save.run_and_write.Goals as goal

pub returns-in_err-world : goal.returns-in_err-world
returns-in_err-world g c =
    let p = err_from_is_err_and c.from_residual.result c.from_residual.ensures.1 in
    rw (p.1, p.2) (nothing_written (g.O.Sink.seen c.args.out.now)
    (save_text (values_of c.args.config)))

pub returns : goal.returns
returns g c =
    let is : c.into_state-state.result ≡ state_of (values_of c.args.config) =
    c.into_state-state.ensures ∙ ap state_of c.in_ok-world.ensures.final.config in
    subst (λ (s : SavedState). WritesAll {T = Unit {0}} (g.O.Sink.seen c.args.out.now)
    (g.O.Sink.seen c.write_state-written.new.out) (saved_text s) c.write_state-written.result) is
    c.write_state-written.ensures
