-- The bytes so far are written.
use Rattle.std.proofs.Common.{take, Ok}
use Rattle.written_texts.specs.WrittenText.{Writes}
use Rattle.written_texts.proofs.piece.write_bytes.Given as goal

abbrev pub invariant-loop-byte : goal.invariant-loop-byte
invariant-loop-byte g l =
    Writes (g.O.Sink.seen l.fn.out) (g.O.Sink.seen l.out) l.fn.piece.items l.piece.items
    (take l.byte-index l.text) (Ok tt)
