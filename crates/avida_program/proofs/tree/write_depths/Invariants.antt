-- The lines so far are written.
use Rattle.std.proofs.Common.{take, Ok}
use Rattle.std.specs.Prelude.{flat_map}
use Rattle.avida_program.proofs.Prelude.{depth_line, Writes}
use Rattle.avida_program.proofs.tree.write_depths.Given as goal

abbrev pub invariant-loop-depth : goal.invariant-loop-depth
invariant-loop-depth g l =
    Writes (g.O.Sink.seen l.fn.out) (g.O.Sink.seen l.out) l.fn.piece.items l.piece.items
    (flat_map depth_line (take l.depth-index l.depths)) (Ok tt)
