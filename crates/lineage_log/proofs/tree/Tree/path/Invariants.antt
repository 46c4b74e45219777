use Rattle.std.proofs.Common.{◌≡◌, ◌++◌, suc, Some}
use Rattle.std.specs.Prelude.{IfSome, IsSome}
use Rattle.lineage_log.proofs.Prelude.{option_map_or, id_order, node_at}
use Rattle.lineage_log.proofs.KeptLemmas.{links_back}
use Rattle.lineage_log.proofs.tree.Tree.path.Given as goal

-- the links so far and those that are left are all, the founder last
abbrev pub invariant-loop-next : goal.invariant-loop-next
invariant-loop-next l = record {
  all : l.links.items ++ links_back (id_order l.self-inside.nodes.entries) l.next
      ≡ links_back (id_order l.self-inside.nodes.entries) (Some l.fn.id);
  there : IfSome l.next (λ id. IsSome (node_at (id_order l.self-inside.nodes.entries) id));
}

abbrev pub decreases-loop-next : goal.decreases-loop-next
decreases-loop-next l = option_map_or suc l.next 0
