-- The run has come so far, and the texts so far are written.
use Rattle.std.proofs.Common.{Ok}
use Rattle.logged_run.proofs.Prelude.{updates_text, WritesAll, HasCome}
use Rattle.logged_run.proofs.publishing.publish_updates.Given as goal

abbrev pub invariant-loop : goal.invariant-loop
invariant-loop g l = record {
  come : HasCome l.fn.progress.world.config l.counter l.publisher l.progress;
  written : WritesAll {T = Unit {0}} (g.O.Sink.seen l.fn.out) (g.O.Sink.seen l.out)
      (updates_text l.fn.progress.world.config l.counter) (Ok tt);
}
