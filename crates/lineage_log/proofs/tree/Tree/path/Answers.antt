use Rattle.std.proofs.Common.{◌≡◌, ◌++◌, ◌∙◌, ap, sym, reverse, List, [], ◌∷◌, append-nil, subst, true≢false, suc, ℕ, Option, Some, None, arith}
use Rattle.std.specs.Prelude.{IfSome, IsSome, is_some}
use Rattle.lineage_log.proofs.Prelude.{option_map_or, Link, line_of_descent, link_of, TreeValue, id_order, node_at}
use Rattle.lineage_log.proofs.OrderLemmas.{order_finds}
use Rattle.lineage_log.proofs.NodeLemmas.{is_some_link}
use Rattle.lineage_log.proofs.KeptLemmas.{back_once, links_back, parent_lower, parent_stands}
use Rattle.lineage_log.proofs.tree.Tree.path.Goals as goal

pub loop-next-init : goal.loop-next-init
loop-next-init c =
    let nodes = id_order c.self.inside.nodes.entries in
    record {
      all = ap (λ (links : List Link). links ++ links_back nodes (Some c.args.id))
          c.new-links.ensures.items;
      there = sym (is_some_link nodes c.args.id)
          ∙ ap (λ (t : TreeValue). is_some (link_of t.links c.args.id)) c.self.view_is ∙ c.requires;
    }

pub unreachable-requires : goal.unreachable-requires
unreachable-requires c =
    let nodes = c.self.inside.nodes.entries in
    let there = subst (λ next. IfSome next (λ id. IsSome (node_at (id_order nodes) id)))
    c.in-Some.is c.loop-next.invariant.there in
    let none : node_at (id_order nodes) c.in-Some.id ≡ None =
    order_finds nodes c.in-Some.id ∙ sym c.in_default-get.ensures.value in
    true≢false (sym there ∙ ap is_some none)

pub loop-next-smaller : goal.loop-next-smaller
loop-next-smaller c =
    let nodes = c.self.inside.nodes.entries in
    let is = order_finds nodes c.in-Some.id ∙ sym c.in-Some-get.ensures.value in
    omega (
      arith,
      parent_lower (id_order nodes) c.in-Some.id c.in-Some-get.node.now c.parent-next.result
          c.self.invariant.families is c.parent-next.ensures,
      ap (λ (o : Option ℕ). option_map_or suc o 0) c.in-Some.is,
    )

pub loop-next-preserved : goal.loop-next-preserved
loop-next-preserved c =
    let nodes = id_order c.self.inside.nodes.entries in
    let node = c.in-Some-get.node.now in
    let is : node_at nodes c.in-Some.id ≡ Some node =
    order_finds c.self.inside.nodes.entries c.in-Some.id ∙ sym c.in-Some-get.ensures.value in
    let before = ap (λ next. c.loop-next.links.items ++ links_back nodes next) (sym c.in-Some.is)
    ∙ c.loop-next.invariant.all in
    let pushed = c.in_ok-push.ensures.items
    ∙ ap (λ (link : Link). c.loop-next.links.items ++ link ∷ []) c.in_ok-link.ensures in
    record {
      all = (λ i. pushed i ++ links_back nodes (c.parent-next.ensures i))
          ∙ back_once nodes c.loop-next.links.items (links_back nodes (Some c.args.id)) c.in-Some.id
          node c.self.invariant.families is before;
      there = parent_stands nodes c.in-Some.id node c.parent-next.result c.self.invariant.families
          is c.parent-next.ensures;
    }

pub returns : goal.returns
unfolding line_of_descent
returns c =
    let nodes = id_order c.self.inside.nodes.entries in
    let all = sym (append-nil c.loop-next.links.items)
    ∙ ap (λ next. c.loop-next.links.items ++ links_back nodes next) (sym c.in_default.is)
    ∙ c.loop-next.invariant.all in
    c.from_vec.ensures ∙ c.reverse.ensures.items ∙ ap reverse all
    ∙ ap (λ (t : TreeValue). line_of_descent t.links c.args.id) c.self.view_is
