-- The letters so far are written.
use Rattle.std.proofs.Common.{map, take, Ok}
use Rattle.instruction_set.specs.Letter.{byte_of}
use Rattle.written_texts.specs.WrittenText.{Writes}
use Rattle.written_texts.proofs.piece.write_letters.Given as goal

abbrev pub invariant-loop-letter : goal.invariant-loop-letter
invariant-loop-letter g l =
    Writes (g.O.Sink.seen l.fn.out) (g.O.Sink.seen l.out) l.fn.piece.items l.piece.items
    (map byte_of (take l.letter-index l.letters)) (Ok tt)
