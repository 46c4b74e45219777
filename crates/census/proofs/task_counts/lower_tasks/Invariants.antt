use Rattle.std.proofs.Common.{◌-◌}
use Rattle.census.proofs.TaskLemmas.{HasChanged}
use Rattle.census.proofs.task_counts.lower_tasks.Given as goal

abbrev pub invariant-loop-place : goal.invariant-loop-place
invariant-loop-place l = HasChanged (λ n by. n - by) l.initial.counts l.credited l.counts l.place
