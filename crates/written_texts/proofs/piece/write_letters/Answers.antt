use Rattle.std.proofs.Common.{◌+◌, Err, [], ◌∷◌, map, drop}
use Rattle.std.proofs.lemmas.Result.{err_from_is_err_and}
use Rattle.instruction_set.specs.declared.letter.Letter.TheVariants.{NopA}
use Rattle.instruction_set.specs.Letter.{byte_of}
use Rattle.written_texts.proofs.PieceLemmas.{map_cut, map_next, writes_short, writes_then}
use Rattle.written_texts.proofs.piece.write_letters.Goals as goal

pub returns-in_err-write_byte : goal.returns-in_err-write_byte
returns-in_err-write_byte g c =
    let p = err_from_is_err_and c.from_residual.result c.from_residual.ensures.1 in
    let i = c.loop-letter.letter-index in
    let wrote = writes_then {r = Err c.in_err-write_byte.field-0.0} (c.byte.result ∷ [])
    c.loop-letter.invariant c.in_err-write_byte.ensures in
    rw (
      p.1,
      p.2,
      map_cut byte_of c.args.letters.now i NopA c.loop-letter-test.true,
      ← c.byte.ensures,
    )
    (writes_short (map byte_of (drop (i + 1) c.args.letters.now)) wrote)

pub loop-letter-preserved : goal.loop-letter-preserved
loop-letter-preserved g c =
    rw (
      map_next byte_of c.args.letters.now c.loop-letter.letter-index NopA c.loop-letter-test.true,
      ← c.byte.ensures,
    )
    (writes_then (c.byte.result ∷ []) c.loop-letter.invariant c.in_ok-write_byte.ensures)
