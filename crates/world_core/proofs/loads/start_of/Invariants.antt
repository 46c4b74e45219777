use Rattle.std.proofs.Common.{◌≡◌, ◌+◌, ◌<◌, ◌≤◌, length, sum, take}
use Rattle.world_core.proofs.loads.start_of.Given as goal

-- the load before the cell is known, and the share isn't behind it
abbrev pub invariant-loop-before : goal.invariant-loop-before
invariant-loop-before l = record {
  within : l.cell ≤ length l.loads;
  known : l.before ≡ sum (take l.cell l.loads);
  to : l.cell < length l.loads → l.share < sum (take (l.cell + 1) l.loads);
}

-- the cells before it
abbrev pub decreases-loop-before : goal.decreases-loop-before
decreases-loop-before l = l.cell
