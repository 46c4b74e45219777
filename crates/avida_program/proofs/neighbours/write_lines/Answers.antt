use Rattle.std.proofs.Common.{◌++◌}
use Rattle.std.specs.Prelude.{flat_map}
use Rattle.avida_program.proofs.Prelude.{err_from_is_err_and, base_line, entry_line, totals_line, writes_held, writes_short, writes_then}
use Rattle.avida_program.proofs.neighbours.write_lines.Goals as goal

pub returns-in_err-make_room : goal.returns-in_err-make_room
returns-in_err-make_room g c =
    let p = err_from_is_err_and c.from_residual.result c.from_residual.ensures.1 in
    let text = base_line c.args.base.now ++ flat_map entry_line c.args.entries.now
    ++ totals_line c.args.totals.now in
    rw (p.1, p.2) (writes_short text c.in_err-make_room.ensures.writes)

pub returns-in_err-write_entries : goal.returns-in_err-write_entries
returns-in_err-write_entries g c =
    let p = err_from_is_err_and c.from_residual-in_err-write_entries.result
    c.from_residual-in_err-write_entries.ensures.1 in
    let base = base_line c.args.base.now in
    let last = totals_line c.args.totals.now in
    let lines = flat_map entry_line c.args.entries.now in
    let based = writes_then base c.in_ok-make_room.ensures.writes
    (writes_held (g.O.Sink.seen c.make_room.new.out) _ _ base c.push_base.ensures) in
    rw (p.1, p.2) (writes_short last (writes_then lines based c.in_err-write_entries.ensures))

pub returns-in_err-make_room-2 : goal.returns-in_err-make_room-2
returns-in_err-make_room-2 g c =
    let p = err_from_is_err_and c.from_residual-in_err-make_room-2.result
    c.from_residual-in_err-make_room-2.ensures.1 in
    let base = base_line c.args.base.now in
    let last = totals_line c.args.totals.now in
    let lines = flat_map entry_line c.args.entries.now in
    let based = writes_then base c.in_ok-make_room.ensures.writes
    (writes_held (g.O.Sink.seen c.make_room.new.out) _ _ base c.push_base.ensures) in
    let listed = writes_then lines based c.in_ok-write_entries.ensures in
    rw (p.1, p.2) (writes_then last listed (writes_short last c.in_err-make_room-2.ensures.writes))

pub returns : goal.returns
returns g c =
    let base = base_line c.args.base.now in
    let last = totals_line c.args.totals.now in
    let lines = flat_map entry_line c.args.entries.now in
    let based = writes_then base c.in_ok-make_room.ensures.writes
    (writes_held (g.O.Sink.seen c.make_room.new.out) _ _ base c.push_base.ensures) in
    let end = writes_held (g.O.Sink.seen c.make_room-2.new.out) _ _ last c.push_totals.ensures in
    let listed = writes_then lines based c.in_ok-write_entries.ensures in
    writes_then last listed (writes_then last c.in_ok-make_room-2.ensures.writes end)
