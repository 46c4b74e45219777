use Rattle.std.proofs.Common.{◌≡◌, ◌+◌, Err, length, refl, arith}
use Rattle.avida_program.proofs.Prelude.{err_from_is_err_and, resident_line}
use Rattle.avida_program.proofs.ListTexts.{item_stopped, item_written, items_whole}
use Rattle.avida_program.proofs.replay.write_livings.Goals as goal

pub returns-in_err-write_living : goal.returns-in_err-write_living
returns-in_err-write_living g c =
    let p = err_from_is_err_and c.from_residual.result c.from_residual.ensures.1 in
    let i = c.loop-living.living-index in
    let wrote = item_written {r = Err c.in_err-write_living.field-0.0} resident_line
    c.args.livings.now i c.living-item.result c.loop-living.invariant c.in_err-write_living.ensures refl c.living-item.is c.loop-living-test.true in
    rw (p.1, p.2) (item_stopped resident_line c.args.livings.now (i + 1) wrote)

pub loop-living-preserved : goal.loop-living-preserved
loop-living-preserved g c =
    item_written resident_line c.args.livings.now c.loop-living.living-index c.living-item.result
    c.loop-living.invariant c.in_ok-write_living.ensures refl c.living-item.is c.loop-living-test.true

pub returns : goal.returns
returns g c =
    let i = c.loop-living.living-index in
    let at_end : i ≡ length c.args.livings.now =
    omega (arith, c.loop-living.auto.living-index-end) in
    c.put_rest.ensures _ _
    (items_whole resident_line c.args.livings.now i c.loop-living.invariant at_end)
