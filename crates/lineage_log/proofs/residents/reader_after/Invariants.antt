use Rattle.std.proofs.Common.{◌≡◌, drop}
use Rattle.lineage_log.proofs.Prelude.{lines_of, Before, told_all, place_of}
use Rattle.lineage_log.proofs.residents.reader_after.Given as goal

abbrev pub invariant-loop-line : goal.invariant-loop-line
invariant-loop-line l = told_all (place_of l.place) (lines_of (drop l.line-index l.lines))
    ≡ told_all Before (lines_of l.lines)
