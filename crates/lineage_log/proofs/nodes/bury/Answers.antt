use Rattle.std.proofs.Common.{◌<◌, ap, subst, suc, ℕ, Option, arith}
use Rattle.lineage_log.proofs.Prelude.{option_map_or, id_order}
use Rattle.lineage_log.proofs.DeathLemmas.{Go, go_again, go_first, laid_down, lies, next_counts}
use Rattle.lineage_log.proofs.KeptLemmas.{buried}
use Rattle.lineage_log.proofs.nodes.bury.Goals as goal

pub loop-next-init : goal.loop-next-init
loop-next-init c = record {
  go = go_first c.args.nodes.now.entries c.lay_down-next.new.nodes.entries c.args.id
      c.lay_down-next.result c.requires.nodes c.requires.lives c.lay_down-next.ensures;
}

pub lose_child-next-requires : goal.lose_child-next-requires
lose_child-next-requires c =
    next_counts (laid_down c.args.id (id_order c.args.nodes.now.entries)) c.loop-next.nodes.entries
    c.loop-next.next c.in-Some.above c.loop-next.invariant.go c.in-Some.is

-- one node more went, or none
turn : (c : goal.After-lose_child-next)
    → Go (laid_down c.args.id (id_order c.args.nodes.now.entries))
    (id_order c.lose_child-next.new.nodes.entries)
    c.lose_child-next.result
    × (option_map_or suc c.lose_child-next.result 0 < suc c.in-Some.above)
turn c =
    go_again (laid_down c.args.id (id_order c.args.nodes.now.entries)) c.loop-next.nodes.entries
    c.lose_child-next.new.nodes.entries c.loop-next.next c.in-Some.above c.lose_child-next.result
    c.loop-next.invariant.go c.in-Some.is c.lose_child-next.ensures

pub loop-next-smaller : goal.loop-next-smaller
loop-next-smaller c =
    omega (arith, (turn c).1, ap (λ (o : Option ℕ). option_map_or suc o 0) c.in-Some.is)

pub loop-next-preserved : goal.loop-next-preserved
loop-next-preserved c = record { go = (turn c).0 }

pub returns-clause-tree : goal.returns-clause-tree
returns-clause-tree c =
    let start = laid_down c.args.id (id_order c.args.nodes.now.entries) in
    let go = subst (λ next. Go start (id_order c.loop-next.nodes.entries) next) c.in_default.is
    c.loop-next.invariant.go in
    let nodes = id_order c.args.nodes.now.entries in
    buried nodes start (id_order c.loop-next.nodes.entries) c.args.id
    (lies nodes c.args.id c.requires.nodes c.requires.lives)
    (record { families = go.families; needed = go.needed }) go.fewer
