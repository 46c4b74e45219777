use Rattle.std.proofs.Common.{refl}
use Rattle.logic_tasks.specs.LogicTasks.{tasks_of}
use Rattle.logic_tasks.proofs.tasks.Tasks.none.Goals as goal

pub returns : goal.returns
unfolding tasks_of
returns c = refl
