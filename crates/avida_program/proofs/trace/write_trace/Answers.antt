use Rattle.avida_program.proofs.Prelude.{err_from_is_err_and, nothing_written}
use Rattle.avida_program.specs.Prelude.{letters}
use Rattle.avida_program.specs.TraceText.{trace_text}
use Rattle.avida_program.proofs.trace.write_trace.Goals as goal

pub returns-in_err-organism : goal.returns-in_err-organism
returns-in_err-organism g c =
    let p = err_from_is_err_and c.from_residual.result c.from_residual.ensures.1 in
    rw (p.1, p.2) (nothing_written (g.O.Sink.seen c.args.out.now)
    (trace_text (letters c.args.genome) c.args.low c.args.steps))

pub write_steps-written-requires : goal.write_steps-written-requires
write_steps-written-requires g c = c.in_ok-organism.ensures.age

pub returns : goal.returns
returns g c =
    rw c.of.ensures at (rw c.in_ok-organism.ensures.founded at c.write_steps-written.ensures)
