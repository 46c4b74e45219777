-- So many looks were made, and the lines of what was seen are written.
use Rattle.logged_run.proofs.Prelude.{values_of, HasLooked}
use Rattle.logged_run.proofs.watching.write_looks.Given as goal

abbrev pub invariant-loop : goal.invariant-loop
invariant-loop g l =
    HasLooked l.counter (values_of l.fn.config) l.observer l.newest (g.W.Sink.seen l.fn.sink)
    (g.W.Sink.seen l.sink)
