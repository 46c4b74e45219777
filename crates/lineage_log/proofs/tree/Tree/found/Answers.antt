use Rattle.std.proofs.Common.{sym, subst}
use Rattle.lineage_log.proofs.Prelude.{AreNodes, id_order}
use Rattle.lineage_log.proofs.OrderLemmas.{no_nodes}
use Rattle.lineage_log.proofs.tree.Tree.found.Goals as goal

pub invariant_of-tree : goal.invariant_of-tree
invariant_of-tree c =
    subst (λ nodes. AreNodes (id_order nodes)) (sym c.new.ensures.empty) no_nodes
