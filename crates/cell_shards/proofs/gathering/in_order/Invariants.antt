use Rattle.cell_shards.proofs.Prelude.{into_iter_items}
use Rattle.cell_shards.proofs.FinishLemmas.{Gathered}
use Rattle.cell_shards.proofs.gathering.in_order.Given as goal

abbrev pub invariant-loop-one : goal.invariant-loop-one
invariant-loop-one l =
    Gathered l.pool.jobs (into_iter_items l.initial.one-iterator) (into_iter_items l.one-iterator)
    l.all.items
