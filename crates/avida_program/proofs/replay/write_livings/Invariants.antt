-- The lines so far are written.
use Rattle.std.proofs.Common.{[], take, Ok}
use Rattle.std.specs.Prelude.{flat_map}
use Rattle.avida_program.proofs.Prelude.{resident_line, Writes}
use Rattle.avida_program.proofs.replay.write_livings.Given as goal

abbrev pub invariant-loop-living : goal.invariant-loop-living
invariant-loop-living g l =
    Writes (g.O.Sink.seen l.fn.out) (g.O.Sink.seen l.out) [] l.piece.items
    (flat_map resident_line (take l.living-index l.livings)) (Ok tt)
