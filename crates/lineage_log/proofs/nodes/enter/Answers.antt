use Rattle.std.proofs.Common.{◌≡◌, ◌∙◌, ap, sym, cond, ℕ, ◌+◌, Some, arith}
use Rattle.std.specs.Prelude.{nat_eq}
use Rattle.lineage_log.proofs.Prelude.{lookup, Link, tree_with_newcomer, AreNodes, id_order, tree_of}
use Rattle.lineage_log.proofs.ComingLemmas.{Comes, child_enters, comes, founder_enters, has_room}
use Rattle.lineage_log.proofs.OrderLemmas.{order_at, order_few, order_finds, order_put, order_rises, order_set}
use Rattle.lineage_log.proofs.nodes.enter.Goals.{In_ok-insert}
use Rattle.lineage_log.proofs.nodes.enter.Goals as goal

-- the newcomer came
came : (c : In_ok-insert)
    → Comes (id_order c.args.nodes.now.entries) (id_order c.insert.new.self.entries) c.args.newcomer
    c.new.result
came c =
    let before = c.args.nodes.now.entries in
    let after = c.insert.new.self.entries in
    let at : (other : ℕ) → lookup (nat_eq other) after
    ≡ cond (nat_eq c.args.newcomer.id other) (Some c.new.result) (lookup (nat_eq other) before) =
    λ other. c.in_ok-insert.ensures.updates.0 other
    ∙ ap (λ (l : Link). cond (nat_eq l.id other) (Some c.new.result)
    (lookup (nat_eq other) before)) c.newcomer.view_is in
    comes (id_order before) (id_order after) c.args.newcomer c.new.result c.requires.nodes
    c.requires.can_come c.new.ensures (order_rises after)
    (order_put before after c.args.newcomer.id c.new.result at)
    (order_at before after c.args.newcomer.id (Some c.new.result) at)

pub gain_child-requires : goal.gain_child-requires
gain_child-requires c =
    λ node there. has_room (id_order c.args.nodes.now.entries) (id_order c.insert.new.self.entries)
    c.args.newcomer c.new.result 9223372036854775808 c.in-Some.parent node c.requires.nodes
    (came (goal.at.gain_child-requires c).In_ok-insert)
    (omega (
      arith,
      order_few c.args.nodes.now.entries,
      c.len-count.ensures.len,
      c.len-count.ensures.small,
    ))
    (order_finds c.insert.new.self.entries c.in-Some.parent ∙ there)

-- a child came
child : (c : goal.After-gain_child) → AreNodes (id_order c.gain_child.new.nodes.entries)
    × (tree_of (id_order c.gain_child.new.nodes.entries)
    ≡ tree_with_newcomer (tree_of (id_order c.args.nodes.now.entries)) c.args.newcomer)
child c =
    let mid = c.insert.new.self.entries in
    child_enters (id_order c.args.nodes.now.entries) (id_order mid)
    (id_order c.gain_child.new.nodes.entries) c.args.newcomer c.new.result c.in-Some.parent
    c.requires.nodes c.requires.can_come (came (goal.at.returns-in-Some-clause-ok c).In_ok-insert)
    (sym (ap (λ (l : Link). l.parent) c.newcomer.view_is) ∙ c.in-Some.is)
    (λ node there.
    let is = sym (order_finds mid c.in-Some.parent) ∙ there in
    ap id_order (c.gain_child.ensures node is)
    ∙ order_set mid c.in-Some.parent node (record node { children = node.children + 1 }) is)

pub returns-in-Some-clause-ok : goal.returns-in-Some-clause-ok
returns-in-Some-clause-ok c = (child c).1

pub returns-in-Some-clause-nodes : goal.returns-in-Some-clause-nodes
returns-in-Some-clause-nodes c = (child c).0

pub returns-in_default-clause-ok : goal.returns-in_default-clause-ok
returns-in_default-clause-ok c =
    (came (goal.at.returns-in_default-clause-ok c).In_ok-insert).tree

pub returns-in_default-clause-nodes : goal.returns-in_default-clause-nodes
returns-in_default-clause-nodes c =
    founder_enters (id_order c.args.nodes.now.entries) (id_order c.insert.new.self.entries)
    c.args.newcomer c.new.result c.requires.nodes
    (came (goal.at.returns-in_default-clause-nodes c).In_ok-insert)
    (sym (ap (λ (l : Link). l.parent) c.newcomer.view_is) ∙ c.in_default.is)
