-- The lines so far are written, and the organism has come so far.
use Rattle.std.proofs.Common.{◌≡◌, ◌≤◌, [], Ok}
use Rattle.avida_program.proofs.Prelude.{Writes, organism_after, trace_lines}
use Rattle.avida_program.proofs.trace.write_steps.Given as goal

abbrev pub invariant-loop-step : goal.invariant-loop-step
invariant-loop-step g l = record {
  age : l.organism.age ≤ l.step;
  stepped : l.organism ≡ organism_after l.fn.organism l.step;
  written : Writes (g.O.Sink.seen l.fn.out) (g.O.Sink.seen l.out) [] l.piece.items
      (trace_lines l.fn.organism l.step) (Ok tt);
}
