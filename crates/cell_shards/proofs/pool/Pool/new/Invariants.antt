use Rattle.std.proofs.Common.{◌≡◌, ◌++◌, map}
use Rattle.cell_shards.proofs.Prelude.{into_iter_items}
use Rattle.cell_shards.proofs.PoolLemmas.{lying}
use Rattle.cell_shards.proofs.pool.Pool.new.Given as goal

abbrev pub invariant-loop-job : goal.invariant-loop-job
invariant-loop-job l = l.slots.items ++ map lying (into_iter_items l.job-iterator)
    ≡ map lying (into_iter_items l.initial.job-iterator)
