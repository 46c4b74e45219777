use Rattle.std.proofs.Common.{◌+◌, Err}
use Rattle.avida_program.proofs.Prelude.{err_from_is_err_and, depth_line}
use Rattle.avida_program.proofs.ListTexts.{item_short, next_written}
use Rattle.avida_program.proofs.tree.write_depths.Goals as goal

pub returns-in_err-write_depth : goal.returns-in_err-write_depth
returns-in_err-write_depth g c =
    let p = err_from_is_err_and c.from_residual.result c.from_residual.ensures.1 in
    let i = c.loop-depth.depth-index in
    let wrote = next_written {r = Err c.in_err-write_depth.field-0.0} depth_line c.args.depths.now i
    _ c.loop-depth.invariant c.in_err-write_depth.ensures c.loop-depth-test.true in
    rw (p.1, p.2) (item_short depth_line c.args.depths.now (i + 1) wrote)

pub loop-depth-preserved : goal.loop-depth-preserved
loop-depth-preserved g c =
    next_written depth_line c.args.depths.now c.loop-depth.depth-index _ c.loop-depth.invariant
    c.in_ok-write_depth.ensures c.loop-depth-test.true
