use Rattle.std.proofs.Common.{◌≡◌, ◌+◌, ◌≤◌, length, map, sum}
use Rattle.std.specs.Prelude.{vec_capacity}
use Rattle.world_core.proofs.Prelude.{load_of}
use Rattle.world_core.proofs.CutLemmas.{HaveCut}
use Rattle.world_core.proofs.ShareLemmas.{HaveStarted}
use Rattle.world_core.proofs.sharding.jobs_of.Given as goal

-- the last cells were cut off, and the load of those that are left is known
abbrev pub invariant-loop-shard : goal.invariant-loop-shard
invariant-loop-shard l = record {
  cut : HaveCut l.fn.whole.seat l.fn.whole.cells l.fn.whole.slices l.jobs.items l.rest.cells
      l.rest.slices l.rest.seat;
  first : l.rest.first ≡ 0;
  loads : length l.loads.items ≡ length l.rest.slices;
  left : l.before ≡ sum l.loads.items;
  all : l.all ≡ sum (map load_of l.fn.whole.slices);
  started : HaveStarted l.shards l.fn.whole.slices l.jobs.items l.shard l.loads.items;
  few : length l.rest.cells ≤ 65536;
  some : length l.jobs.items + l.shard + 1 ≡ l.shards;
  room : vec_capacity l.jobs ≡ l.shards;
}

-- the shards to go
abbrev pub decreases-loop-shard : goal.decreases-loop-shard
decreases-loop-shard l = l.shard
