use Rattle.std.proofs.Common.{◌≡◌, length}
use Rattle.phylogeny.proofs.SlotLemmas.{AreCounted}
use Rattle.phylogeny.proofs.shape.each_at_its_id.Given as goal

-- with those who are still to come, each id is counted as often as it stands in a cell
abbrev pub invariant-loop-slot : goal.invariant-loop-slot
invariant-loop-slot l = record {
  as_many : length l.counts.items ≡ l.ids;
  counts : AreCounted l.counts.items l.ids l.slot-index l.standing;
}
