use Rattle.std.proofs.Common.{[], ◌∷◌}
use Rattle.avida_program.proofs.Prelude.{err_from_is_err_and, traced_value, remark_text, step_text, trace_line, writes_held, writes_short, writes_then}
use Rattle.avida_program.proofs.trace_line.write_line.Goals as goal

pub returns-in_err-make_room : goal.returns-in_err-make_room
returns-in_err-make_room g c =
    let p = err_from_is_err_and c.from_residual.result c.from_residual.ensures.1 in
    rw (p.1, p.2) (writes_short (trace_line c.args.number (traced_value c.args.traced.now))
    c.in_err-make_room.ensures.writes)

pub returns-in_err-write_remark : goal.returns-in_err-write_remark
returns-in_err-write_remark g c =
    let p = err_from_is_err_and c.from_residual-in_err-write_remark.result
    c.from_residual-in_err-write_remark.ensures.1 in
    let step = step_text c.args.number (traced_value c.args.traced.now) in
    let remark = remark_text (traced_value c.args.traced.now).remark in
    let held = writes_held (g.O.Sink.seen c.make_room.new.out) _ _ step c.push_step.ensures.items in
    let wrote = writes_then remark (writes_then step c.in_ok-make_room.ensures.writes held)
    c.in_err-write_remark.ensures in
    rw (p.1, p.2) (writes_short (10 ∷ []) wrote)

pub returns : goal.returns
returns g c =
    let step = step_text c.args.number (traced_value c.args.traced.now) in
    let remark = remark_text (traced_value c.args.traced.now).remark in
    let held = writes_held (g.O.Sink.seen c.make_room.new.out) _ _ step c.push_step.ensures.items in
    let wrote = writes_then remark (writes_then step c.in_ok-make_room.ensures.writes held)
    c.in_ok-write_remark.ensures in
    writes_then (10 ∷ []) wrote c.write_byte.ensures
