use Rattle.std.proofs.Common.{◌≡◌, length}
use Rattle.lineage_log.proofs.Prelude.{log_of, left_of, lines_of}
use Rattle.lineage_log.proofs.read.read_lines.Given as goal
use Rattle.lineage_log.proofs.ReadLemmas.{with_front}

abbrev pub invariant-loop-reader : goal.invariant-loop-reader
invariant-loop-reader l = with_front (lines_of l.lines.items) (left_of l.reader) ≡ log_of l.fn.bytes

abbrev pub decreases-loop-reader : goal.decreases-loop-reader
decreases-loop-reader l = length l.reader.rest.now
