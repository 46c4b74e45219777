use Rattle.std.proofs.Common.{◌≡◌, ◌≤◌, ◌*◌, take, sum_by}
use Rattle.logic_tasks.specs.LogicTasks.{all_tasks}
use Rattle.merit_slices.specs.Merit.{exponent_in}
use Rattle.merit_slices.proofs.merits.doublings.Given as goal

abbrev pub invariant-loop-task : goal.invariant-loop-task
invariant-loop-task l = record {
  sum : l.sum ≡ sum_by (exponent_in l.tasks) (take l.task-index all_tasks);
  small : l.sum ≤ 5 * l.task-index;
}
