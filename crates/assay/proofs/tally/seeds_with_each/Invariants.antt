-- The tasks so far are counted.
use Rattle.std.proofs.Common.{◌≡◌, ℕ, ◌<◌, get_or}
use Rattle.assay.specs.Assay.{seeds_with}
use Rattle.assay.proofs.tally.seeds_with_each.Given as goal

abbrev pub invariant-loop-task : goal.invariant-loop-task
invariant-loop-task l = (k : ℕ) → k < l.task → get_or l.count-items k 0 ≡ seeds_with l.assays k
