use Rattle.std.proofs.Common.{◌≡◌, sum, take, map}
use Rattle.std.specs.List.{range_with_len}
use Rattle.merit_slices.specs.Slices.{share_of, steps_before}
use Rattle.merit_slices.proofs.slices.deal.Given as goal

-- the cells so far have their shares
abbrev pub invariant-loop-cell : goal.invariant-loop-cell
invariant-loop-cell l = record {
  before : l.before ≡ sum (take l.cell l.merits);
  given : l.given ≡ steps_before l.merits l.steps l.cell;
  made : take l.cell l.out ≡ map (share_of l.merits l.steps) (range_with_len 0 l.cell);
}
