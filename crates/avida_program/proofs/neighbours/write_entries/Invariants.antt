-- The lines so far are written.
use Rattle.std.proofs.Common.{take, Ok}
use Rattle.std.specs.Prelude.{flat_map}
use Rattle.avida_program.proofs.Prelude.{entry_line, Writes}
use Rattle.avida_program.proofs.neighbours.write_entries.Given as goal

abbrev pub invariant-loop-entry : goal.invariant-loop-entry
invariant-loop-entry g l =
    Writes (g.O.Sink.seen l.fn.out) (g.O.Sink.seen l.out) l.fn.piece.items l.piece.items
    (flat_map entry_line (take l.entry-index l.entries)) (Ok tt)
