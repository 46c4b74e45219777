use Rattle.std.proofs.Common.{◌≡◌, replicate, slice_index_or}
use Rattle.std.specs.List.{flat_map, range_with_len}
use Rattle.birth_board.proofs.parents.gather.Given as goal

abbrev pub invariant-loop-cell : goal.invariant-loop-cell
invariant-loop-cell l = l.cells.items
    ≡ flat_map (λ cell. replicate (slice_index_or l.counts cell 0) cell) (range_with_len 0 l.cell)
