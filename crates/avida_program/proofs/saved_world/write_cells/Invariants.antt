-- The cells so far are written.
use Rattle.std.proofs.Common.{Ok}
use Rattle.avida_program.proofs.Prelude.{first_cells_text, WritesAll}
use Rattle.avida_program.proofs.saved_world.write_cells.Given as goal

abbrev pub invariant-loop-cell : goal.invariant-loop-cell
invariant-loop-cell g l =
    WritesAll {T = Unit {0}} (g.O.Sink.seen l.fn.out) (g.O.Sink.seen l.out)
    (first_cells_text l.fn.state.cells l.cell) (Ok tt)
