-- The texts so far are written, the world has come so far, and the sums are those so far.
use Rattle.std.proofs.Common.{Ok}
use Rattle.logged_run.proofs.Prelude.{updates_text, WritesAll, AreSumsOf, IsWorldAt}
use Rattle.logged_run.proofs.logging.write_updates.Given as goal

abbrev pub invariant-loop : goal.invariant-loop
invariant-loop g l = record {
  at : IsWorldAt l.fn.world.config l.counter l.running;
  summed : AreSumsOf l.fn.world.config l.counter l.sums;
  written : WritesAll {T = Unit {0}} (g.O.Sink.seen l.fn.out) (g.O.Sink.seen l.out)
      (updates_text l.fn.world.config l.counter) (Ok tt);
}
