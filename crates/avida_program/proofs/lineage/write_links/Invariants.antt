-- The lines so far are written.
use Rattle.std.proofs.Common.{[], take, Ok}
use Rattle.std.specs.Prelude.{flat_map}
use Rattle.avida_program.proofs.Prelude.{path_line, Writes}
use Rattle.avida_program.proofs.lineage.write_links.Given as goal

abbrev pub invariant-loop-link : goal.invariant-loop-link
invariant-loop-link g l =
    Writes (g.O.Sink.seen l.fn.out) (g.O.Sink.seen l.out) [] l.piece.items
    (flat_map path_line (take l.link-index l.links)) (Ok tt)
