use Rattle.std.proofs.Common.{◌+◌, Err}
use Rattle.avida_program.proofs.Prelude.{err_from_is_err_and, entry_line}
use Rattle.avida_program.proofs.ListTexts.{item_short, next_written}
use Rattle.avida_program.proofs.neighbours.write_entries.Goals as goal

pub returns-in_err-write_entry : goal.returns-in_err-write_entry
returns-in_err-write_entry g c =
    let p = err_from_is_err_and c.from_residual.result c.from_residual.ensures.1 in
    let i = c.loop-entry.entry-index in
    let wrote = next_written {r = Err c.in_err-write_entry.field-0.0} entry_line c.args.entries.now
    i _ c.loop-entry.invariant c.in_err-write_entry.ensures c.loop-entry-test.true in
    rw (p.1, p.2) (item_short entry_line c.args.entries.now (i + 1) wrote)

pub loop-entry-preserved : goal.loop-entry-preserved
loop-entry-preserved g c =
    next_written entry_line c.args.entries.now c.loop-entry.entry-index _ c.loop-entry.invariant
    c.in_ok-write_entry.ensures c.loop-entry-test.true
