use Rattle.std.proofs.Common.{◌∙◌, ◌+◌, ap, refl, sym, arith}
use Rattle.cell_shards.proofs.Prelude.{first_cell}
use Rattle.cell_shards.proofs.ShardLemmas.{first_cell-rises, first_cell-zero, first_cell-end, shard_of, shard-only}
use Rattle.cell_shards.proofs.laws.shards_part_the_cells.Goals as goal

pub returns-clause-begin : goal.returns-clause-begin
returns-clause-begin c = λ cells workers some. first_cell-zero cells workers

pub returns-clause-next : goal.returns-clause-next
returns-clause-next c = λ cells workers shard. refl

pub returns-clause-rising : goal.returns-clause-rising
returns-clause-rising c =
    λ cells workers shard some. first_cell-rises cells workers shard (shard + 1) some (omega arith)

pub returns-clause-end : goal.returns-clause-end
returns-clause-end c = λ cells workers last is. ap (first_cell cells workers) (sym is)
    ∙ first_cell-end cells workers (omega (arith, is))

pub returns-clause-one : goal.returns-clause-one
returns-clause-one c = shard_of

pub returns-clause-only : goal.returns-clause-only
returns-clause-only c = shard-only
