-- The runs so far came to their end.
use Rattle.std.proofs.Common.{◌≡◌, ◌++◌, map, Ok}
use Rattle.std.specs.Vec.Iter.{into_iter_items}
use Rattle.assay.proofs.side_by_side.all_ended.Given as goal

abbrev pub invariant-loop-run : goal.invariant-loop-run
invariant-loop-run l =
    map (λ assay. Ok assay) l.assays.items ++ into_iter_items l.run-iterator
    ≡ into_iter_items l.initial.run-iterator
