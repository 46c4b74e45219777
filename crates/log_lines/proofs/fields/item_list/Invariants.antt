use Rattle.std.proofs.Common.{◌≡◌, ◌++◌, length, Some}
use Rattle.std.specs.Prelude.{option_copied, option_map}
use Rattle.log_lines.proofs.Prelude.{each, read_change, pieces_of}
use Rattle.log_lines.proofs.fields.item_list.Given as goal

abbrev pub invariant-loop-left : goal.invariant-loop-left
invariant-loop-left l =
    option_map (λ others. l.found.items ++ others)
    (each read_change (pieces_of 44 (option_copied l.left)))
    ≡ each read_change (pieces_of 44 (Some l.word))

abbrev pub decreases-loop-left : goal.decreases-loop-left
decreases-loop-left l = length (pieces_of 44 (option_copied l.left))
