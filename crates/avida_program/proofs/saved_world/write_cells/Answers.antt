use Rattle.std.proofs.Common.{◌≡◌, ◌<◌, None, length, slice_index_or, subst, Ok, arith}
use Rattle.avida_program.proofs.Prelude.{err_from_is_err_and, first_cells_text, slot_text, WritesAll, writes_nothing, writes_same, part_stopped, part_written}
use Rattle.avida_program.proofs.saved_world.write_cells.Goals as goal

pub loop-cell-init : goal.loop-cell-init
loop-cell-init g c = writes_nothing _

pub returns-in_err-write_cell : goal.returns-in_err-write_cell
returns-in_err-write_cell g c =
    let p = err_from_is_err_and c.from_residual.result c.from_residual.ensures.1 in
    let cells = c.args.state.now.cells in
    let within : c.loop-cell.cell < length cells = omega (arith, c.cells-cell-end.ensures.cells) in
    rw (p.1, p.2)
    (part_stopped (first_cells_text cells)
    (λ cell. slot_text cell (slice_index_or cells cell None)) (length cells) c.loop-cell.cell
    (c.texts_are_written_by_cells.ensures.more cells) within c.loop-cell.invariant
    c.in_err-write_cell.ensures)

pub loop-cell-preserved : goal.loop-cell-preserved
loop-cell-preserved g c =
    let cells = c.args.state.now.cells in
    let within : c.loop-cell.cell < length cells = omega (arith, c.cells-cell-end.ensures.cells) in
    writes_same (part_written (first_cells_text cells)
    (λ cell. slot_text cell (slice_index_or cells cell None)) (length cells) c.loop-cell.cell
    (c.texts_are_written_by_cells.ensures.more cells) within c.loop-cell.invariant
    c.in_ok-write_cell.ensures)

pub returns : goal.returns
returns g c =
    let cells = c.args.state.now.cells in
    let at_end : c.loop-cell.cell ≡ length cells =
    omega (arith, c.loop-cell.auto.cell-end, c.cells-cell-end.ensures.cells) in
    subst (λ n. WritesAll {T = Unit {0}} (g.O.Sink.seen c.args.out.now)
    (g.O.Sink.seen c.loop-cell.out) (first_cells_text cells n) (Ok tt)) at_end
    c.loop-cell.invariant
