use Rattle.std.proofs.Common.{◌≡◌, All}
use Rattle.cell_shards.proofs.Prelude.{round_numbers, HasRun}
use Rattle.cell_shards.proofs.running.run_free.Given as goal

abbrev pub invariant-loop-number : goal.invariant-loop-number
invariant-loop-number g l = record {
  seat : l.seat ≡ l.pool;
  done : All (HasRun (round_numbers l.round) l.pool.jobs) l.done.items;
}
