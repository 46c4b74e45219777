use Rattle.std.proofs.Common.{◌+◌, Err, [], ◌∷◌, drop, get_or}
use Rattle.std.proofs.lemmas.Result.{err_from_is_err_and}
use Rattle.written_texts.proofs.PieceLemmas.{take_cut, take_next, writes_short, writes_then}
use Rattle.written_texts.proofs.piece.write_bytes.Goals as goal

pub returns-in_err-write_byte : goal.returns-in_err-write_byte
returns-in_err-write_byte g c =
    let p = err_from_is_err_and c.from_residual.result c.from_residual.ensures.1 in
    let i = c.loop-byte.byte-index in
    let text = c.args.text.now in
    let wrote = writes_then {r = Err c.in_err-write_byte.field-0.0} (get_or text i 0 ∷ [])
    c.loop-byte.invariant c.in_err-write_byte.ensures in
    rw (p.1, p.2, take_cut text i c.loop-byte-test.true) (writes_short (drop (i + 1) text) wrote)

pub loop-byte-preserved : goal.loop-byte-preserved
loop-byte-preserved g c =
    rw (take_next c.args.text.now c.loop-byte.byte-index c.loop-byte-test.true)
    (writes_then (get_or c.args.text.now c.loop-byte.byte-index 0 ∷ []) c.loop-byte.invariant
    c.in_ok-write_byte.ensures)
