use Rattle.std.proofs.Common.{◌≡◌, ◌<◌, ◌+◌, ◌∙◌, ap, arith, sym}
use Rattle.avida_program.proofs.Prelude.{err_from_is_err_and, next_state, SavedState, writes_nothing, writes_same, next_state_update}
use Rattle.avida_program.proofs.ResumeLemmas.{next_stopped, next_written, state_begun, state_next}
use Rattle.avida_program.proofs.resume.write_updates.Goals as goal

pub loop-init : goal.loop-init
loop-init g c = record {
  state = state_begun c.args.state;
  update = omega arith;
  written = writes_nothing _;
}

pub returns-in_err-state-clause-text : goal.returns-in_err-state-clause-text
returns-in_err-state-clause-text g c =
    let p = err_from_is_err_and c.from_residual.result c.from_residual.ensures.1 in
    let n = c.loop.counter in
    let within : n < c.args.more = omega arith in
    let so = c.loop.invariant in
    rw (p.1, p.2) (next_stopped c.args.state c.loop.state c.args.more n within so.state so.written
    c.in_err-state.ensures.text)

pub loop-preserved : goal.loop-preserved
loop-preserved g c =
    let n = c.loop.counter in
    let within : n < c.args.more = omega arith in
    let so = c.loop.invariant in
    let next = c.in_ok-state.ensures in
    let update : c.in_ok-state.state.head.update ≡ c.loop.state.head.update + 1 =
    ap (λ (s : SavedState). s.head.update) next.state ∙ next_state_update c.loop.state in
    record {
      state = next.state ∙ ap next_state so.state ∙ sym (state_next c.args.state n);
      update = omega (arith, update, so.update);
      written = writes_same (next_written c.args.state c.loop.state c.args.more n within so.state
          so.written next.text);
    }
