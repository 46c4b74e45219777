use Rattle.std.proofs.Common.{◌∙◌, ap, sym, length, ℕ, subst}
use Rattle.std.specs.Prelude.{Contains, IsSome}
use Rattle.lineage_log.proofs.Prelude.{link_of, TreeValue, IsPruned, NodeValue, id_order, node_at, node_link, length-map}
use Rattle.lineage_log.proofs.OrderLemmas.{order_length}
use Rattle.lineage_log.proofs.NodeLemmas.{is_some_link}
use Rattle.lineage_log.proofs.LivingLemmas.{lives_there}
use Rattle.lineage_log.proofs.TreeLemmas.{is_there}
use Rattle.lineage_log.proofs.KeptLemmas.{nodes_kept}
use Rattle.lineage_log.proofs.tree.Tree.nodes.Goals as goal

pub returns-clause-count : goal.returns-clause-count
returns-clause-count c =
    let nodes = c.self.inside.nodes.entries in
    c.len.ensures.len ∙ sym (order_length nodes c.len.ensures.unique)
    ∙ sym (length-map (id_order nodes) (λ (e : ℕ × NodeValue). node_link e.0 e.1))
    ∙ ap (λ (t : TreeValue). length t.links) c.self.view_is

pub returns-clause-kept : goal.returns-clause-kept
returns-clause-kept c =
    subst IsPruned c.self.view_is
    (nodes_kept (id_order c.self.inside.nodes.entries) c.self.invariant)

pub returns-clause-living : goal.returns-clause-living
returns-clause-living c =
    let nodes = id_order c.self.inside.nodes.entries in
    subst (λ (t : TreeValue). (id : ℕ) → Contains t.living id → IsSome (link_of t.links id))
    c.self.view_is (λ id lives.
    let found = lives_there nodes id c.self.invariant.families.rising lives in
    is_some_link nodes id ∙ is_there (node_at nodes id) found.0 found.1)
