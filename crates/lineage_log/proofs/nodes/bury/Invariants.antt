use Rattle.std.proofs.Common.{suc}
use Rattle.lineage_log.proofs.Prelude.{option_map_or, id_order}
use Rattle.lineage_log.proofs.DeathLemmas.{Go, laid_down}
use Rattle.lineage_log.proofs.nodes.bury.Given as goal

-- some nodes went, and all is as it should be once the next one has one child fewer
abbrev pub invariant-loop-next : goal.invariant-loop-next
invariant-loop-next l = record {
  go : Go (laid_down l.fn.id (id_order l.fn.nodes.entries)) (id_order l.nodes.entries) l.next;
}

abbrev pub decreases-loop-next : goal.decreases-loop-next
decreases-loop-next l = option_map_or suc l.next 0
