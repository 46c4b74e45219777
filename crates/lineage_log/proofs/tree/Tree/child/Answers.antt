use Rattle.std.proofs.Common.{◌≡◌, ◌∙◌, ap, sym, true≢false, List, Some, None}
use Rattle.std.specs.Prelude.{is_some, is_ok}
use Rattle.lineage_log.proofs.Prelude.{Letter, child_of, record_of, link_of, TreeValue, genome_in_tree, id_order, node_at}
use Rattle.lineage_log.proofs.OrderLemmas.{order_finds}
use Rattle.lineage_log.proofs.NodeLemmas.{is_some_link}
use Rattle.lineage_log.proofs.KeptLemmas.{genome_there}
use Rattle.lineage_log.proofs.tree.Tree.child.Goals as goal

pub unreachable-requires : goal.unreachable-requires
unreachable-requires c =
    let nodes = id_order c.self.inside.nodes.entries in
    let there = ap (λ (t : TreeValue). is_some (link_of t.links c.args.parent)) c.self.view_is
    ∙ c.requires.there in
    let none : node_at nodes c.args.parent ≡ None =
    order_finds c.self.inside.nodes.entries c.args.parent ∙ sym c.in_default.ensures.value in
    true≢false (sym there ∙ is_some_link nodes c.args.parent ∙ ap is_some none)

pub unreachable-requires-in_default-stop : goal.unreachable-requires-in_default-stop
unreachable-requires-in_default-stop c =
    let nodes = id_order c.self.inside.nodes.entries in
    let is : node_at nodes c.args.parent ≡ Some c.in-Some.node.now =
    order_finds c.self.inside.nodes.entries c.args.parent ∙ sym c.in-Some.ensures.value in
    let genome = c.genome.ensures ∙ sym (genome_there nodes c.args.parent c.in-Some.node.now is)
    ∙ ap (λ (t : TreeValue). genome_in_tree t c.args.parent) c.self.view_is in
    let refused = c.in-Err.ensures.refused c.in_default-stop.not-Memory in
    true≢false (sym c.requires.applies
    ∙ ap (λ (letters : List Letter). is_ok (child_of letters (record_of c.args.origin.now)))
    (sym genome) ∙ ap is_ok refused)

pub returns-in-Ok : goal.returns-in-Ok
returns-in-Ok c =
    let nodes = id_order c.self.inside.nodes.entries in
    let is : node_at nodes c.args.parent ≡ Some c.in-Some.node.now =
    order_finds c.self.inside.nodes.entries c.args.parent ∙ sym c.in-Some.ensures.value in
    let genome = c.genome.ensures ∙ sym (genome_there nodes c.args.parent c.in-Some.node.now is)
    ∙ ap (λ (t : TreeValue). genome_in_tree t c.args.parent) c.self.view_is in
    ap (λ (letters : List Letter). child_of letters (record_of c.args.origin.now)) (sym genome)
    ∙ c.in-Ok.ensures.ok
