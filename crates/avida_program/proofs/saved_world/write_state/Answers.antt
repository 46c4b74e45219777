use Rattle.std.proofs.Common.{length}
use Rattle.avida_program.proofs.Prelude.{err_from_is_err_and, first_cells_text, ids_of}
use Rattle.lineage_log.specs.Reader.{taken}
use Rattle.saved_lines.specs.SavedText.{count_text}
use Rattle.written_texts.proofs.WriteLemmas.{writes_short, writes_then}
use Rattle.avida_program.proofs.saved_world.write_state.Goals as goal

pub returns-in_err-write_head : goal.returns-in_err-write_head
returns-in_err-write_head g c =
    let p = err_from_is_err_and c.from_residual.result c.from_residual.ensures.1 in
    let state = c.args.state.now in
    let cells = first_cells_text state.cells (length state.cells) in
    let tail = count_text (taken (ids_of state.cells)) in
    rw (p.1, p.2, c.texts_are_written_by_cells.ensures.whole state)
    (writes_short tail (writes_short {U = Unit {0}} cells c.in_err-write_head.ensures))

pub returns-in_err-write_cells : goal.returns-in_err-write_cells
returns-in_err-write_cells g c =
    let p = err_from_is_err_and c.from_residual-in_err-write_cells.result
    c.from_residual-in_err-write_cells.ensures.1 in
    let state = c.args.state.now in
    let cells = first_cells_text state.cells (length state.cells) in
    let tail = count_text (taken (ids_of state.cells)) in
    rw (p.1, p.2, c.texts_are_written_by_cells.ensures.whole state)
    (writes_short tail
    (writes_then cells c.in_ok-write_head.ensures c.in_err-write_cells.ensures))

pub returns : goal.returns
returns g c =
    let state = c.args.state.now in
    let cells = first_cells_text state.cells (length state.cells) in
    let tail = count_text (taken (ids_of state.cells)) in
    rw (c.texts_are_written_by_cells.ensures.whole state)
    (writes_then tail
    (writes_then cells c.in_ok-write_head.ensures c.in_ok-write_cells.ensures)
    c.write_tail.ensures)
