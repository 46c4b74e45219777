use Rattle.avida_program.proofs.Prelude.{err_from_is_err_and, depth_line, writes_held, writes_short, writes_then}
use Rattle.avida_program.proofs.tree.write_depth.Goals as goal

pub returns-in_err-make_room : goal.returns-in_err-make_room
returns-in_err-make_room g c =
    let p = err_from_is_err_and c.from_residual.result c.from_residual.ensures.1 in
    rw (p.1, p.2) (writes_short (depth_line c.args.depth.now) c.in_err-make_room.ensures.writes)

pub returns : goal.returns
returns g c =
    let line = depth_line c.args.depth.now in
    let held = writes_held (g.O.Sink.seen c.make_room.new.out) _ _ line c.push_depth.ensures in
    writes_then line c.in_ok-make_room.ensures.writes held
