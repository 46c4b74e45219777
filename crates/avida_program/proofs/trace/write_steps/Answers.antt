use Rattle.std.proofs.Common.{◌≡◌, ◌<◌, ◌+◌, Err, arith}
use Rattle.avida_program.proofs.Prelude.{err_from_is_err_and, trace_lines}
use Rattle.avida_program.proofs.TextEnds.{stopped_within, wanting_within}
use Rattle.avida_program.proofs.TraceLemmas.{line_written, lines_front, lines_whole, stepped_once}
use Rattle.avida_program.proofs.trace.write_steps.Goals as goal

pub returns-in_err-traced : goal.returns-in_err-traced
returns-in_err-traced g c =
    let p = err_from_is_err_and c.from_residual.result c.from_residual.ensures.1 in
    let n = c.loop-step.step in
    let within : n < c.args.steps + 1 = omega arith in
    let rest = lines_front c.args.organism.now n c.args.steps within in
    rw (p.1, p.2) (wanting_within rest.0 (trace_lines c.args.organism.now c.args.steps)
    c.loop-step.invariant.written rest.1)

pub returns-in_err-write_line : goal.returns-in_err-write_line
returns-in_err-write_line g c =
    let p = err_from_is_err_and c.from_residual-in_err-write_line.result
    c.from_residual-in_err-write_line.ensures.1 in
    let n = c.loop-step.step in
    let within : n + 1 < c.args.steps + 1 = omega arith in
    let rest = lines_front c.args.organism.now (n + 1) c.args.steps within in
    let so = c.loop-step.invariant in
    let wrote = line_written {r = Err c.in_err-write_line.field-0.0} c.args.organism.now n so.written c.in_err-write_line.ensures
    c.in_ok-traced.ensures.traced so.stepped in
    rw (p.1, p.2) (stopped_within rest.0 (trace_lines c.args.organism.now c.args.steps) wrote rest.1)

pub loop-step-preserved : goal.loop-step-preserved
loop-step-preserved g c =
    let n = c.loop-step.step in
    let so = c.loop-step.invariant in
    let aged = c.in_ok-traced.ensures.age in
    record {
      age = omega (arith, aged);
      stepped = stepped_once c.args.organism.now n _ _ c.in_ok-traced.ensures.steps so.stepped;
      written = line_written c.args.organism.now n so.written c.in_ok-write_line.ensures
          c.in_ok-traced.ensures.traced so.stepped;
    }

pub returns : goal.returns
returns g c =
    let at_end : c.loop-step.step ≡ c.args.steps = omega (arith, c.loop-step.auto.step-end) in
    c.put_rest.ensures _ _
    (lines_whole c.args.organism.now c.loop-step.step c.args.steps c.loop-step.invariant.written at_end)
