use Rattle.std.proofs.Common.{length}
use Rattle.lineage_log.proofs.Prelude.{log_of, left_of, place_of}
use Rattle.lineage_log.proofs.LeftLemmas.{HasGiven}
use Rattle.lineage_log.proofs.residents.reader_at_end.Given as goal

abbrev pub invariant-loop-log : goal.invariant-loop-log
invariant-loop-log l = HasGiven (log_of l.fn.bytes) (place_of l.log.place) (left_of l.log)

abbrev pub decreases-loop-log : goal.decreases-loop-log
decreases-loop-log l = length l.log.rest.now
