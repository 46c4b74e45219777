use Rattle.std.proofs.Common.{◌≡◌, map}
use Rattle.cell_shards.proofs.Prelude.{round_numbers, HasInterned, birth_of, part_of}
use Rattle.cell_shards.proofs.LivesLemmas.{HaveLived}
use Rattle.cell_shards.proofs.lives.live.Given as goal

abbrev pub invariant-loop-place : goal.invariant-loop-place
invariant-loop-place g l = record {
  long : l.cells.len ≡ l.initial.cells.len;
  lives : HaveLived (round_numbers l.round) (part_of l.fn.job) l.place l.cells.items
      l.left.standings (map birth_of l.left.births) l.left.dead;
  seat : HasInterned l.fn.job.seat l.left.seat l.left.births;
}
