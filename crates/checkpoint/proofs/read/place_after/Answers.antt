use Rattle.std.proofs.Common.{ap, sym, ◌∙◌}
use Rattle.std.specs.Prelude.{option_map}
use Rattle.checkpoint.proofs.Prelude.{values_of_line}
use Rattle.checkpoint.proofs.read.place_after.Goals as goal

pub told_saved_line-requires : goal.told_saved_line-requires
told_saved_line-requires c =
    (c.one_spelling.ensures.takes c.args.piece.now (values_of_line c.in-Some.line)
    (sym c.in_ok-line.ensures ∙ ap (option_map values_of_line) c.in-Some.is)).1
