use Rattle.std.proofs.Common.{◌≡◌, ◌∙◌, sym}
use Rattle.avida_program.proofs.Prelude.{err_from_is_err_and, next_state, next_text, nothing_written, kept_holds, kept_writes}
use Rattle.avida_program.proofs.resume.write_update.Goals as goal

pub returns-in_err-next-clause-text : goal.returns-in_err-next-clause-text
returns-in_err-next-clause-text g c =
    let p = err_from_is_err_and c.from_residual.result c.from_residual.ensures.1 in
    rw (p.1, p.2) (nothing_written (g.O.Sink.seen c.args.out.now) (next_text c.args.state))

pub returns-clause-state : goal.returns-clause-state
returns-clause-state g c =
    kept_holds (λ next. next ≡ next_state c.args.state) c.in_ok-next.next c.kept.result
    c.kept.ensures.value c.in_ok-next.ensures.state

pub returns-clause-text : goal.returns-clause-text
returns-clause-text g c =
    rw (sym (c.deref.ensures.value ∙ c.in_ok-next.ensures.text)) (kept_writes c.kept.ensures.ok
    c.kept.ensures.err c.put_text-put.ensures)
