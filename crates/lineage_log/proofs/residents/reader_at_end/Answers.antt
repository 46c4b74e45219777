use Rattle.std.proofs.Common.{Bool, Ok, subst}
use Rattle.lineage_log.proofs.Prelude.{log_of, TellsNext}
use Rattle.lineage_log.proofs.LeftLemmas.{given_none, given_told}
use Rattle.lineage_log.proofs.residents.reader_at_end.Goals as goal

pub loop-log-init : goal.loop-log-init
loop-log-init c =
    given_none c.args.bytes.now c.reader_of_bytes-log.result c.reader_of_bytes-log.ensures

pub loop-log-preserved : goal.loop-log-preserved
loop-log-preserved c =
    given_told (log_of c.args.bytes.now) c.loop-log.log c.tell_next.new.reader c.loop-log.invariant
    (subst (λ (b : Bool). TellsNext (Ok b) c.loop-log.log c.tell_next.new.reader)
    c.if-branch.true c.in_ok-tell_next.ensures)
