-- The texts so far are written, and the saved world has come so far.
use Rattle.std.proofs.Common.{◌≡◌, ◌+◌, Ok}
use Rattle.avida_program.proofs.Prelude.{later_texts, saved_state_after, WritesAll}
use Rattle.avida_program.proofs.resume.write_updates.Given as goal

abbrev pub invariant-loop : goal.invariant-loop
invariant-loop g l = record {
  state : l.state ≡ saved_state_after l.fn.state l.counter;
  update : l.state.head.update ≡ l.fn.state.head.update + l.counter;
  written : WritesAll {T = Unit {0}} (g.O.Sink.seen l.fn.out) (g.O.Sink.seen l.out)
      (later_texts l.fn.state l.counter) (Ok tt);
}
