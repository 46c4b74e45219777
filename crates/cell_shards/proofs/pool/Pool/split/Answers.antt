use Rattle.std.proofs.Common.{rules}
use Rattle.cell_shards.proofs.PoolLemmas.{splits}
use Rattle.cell_shards.proofs.pool.Pool.split.Goals as goal

pub split_seat-seat-requires : goal.split_seat-seat-requires
split_seat-seat-requires c = (search rules, search rules, splits _ _ _)
