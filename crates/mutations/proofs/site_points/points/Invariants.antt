use Rattle.std.proofs.Common.{◌≡◌, ◌++◌, drop}
use Rattle.mutations.proofs.Prelude.{points_from}
use Rattle.mutations.proofs.site_points.points.Given as goal

abbrev pub invariant-loop-at : goal.invariant-loop-at
invariant-loop-at l = l.points ++ points_from l.at (drop l.at l.clean) (drop l.at l.text)
    ≡ points_from 0 l.clean l.text
