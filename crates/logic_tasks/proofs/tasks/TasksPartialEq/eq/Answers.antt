use Rattle.std.proofs.Common.{refl}
use Rattle.logic_tasks.specs.TaskBitsLaws.{number_of-tasks_of}
use Rattle.logic_tasks.proofs.tasks.TasksPartialEq.eq.Goals as goal

pub returns : goal.returns
returns c = rw (
  ← c.self.view_is,
  ← c.other.view_is,
  number_of-tasks_of c.self.inside.bits c.self.invariant,
  number_of-tasks_of c.other.inside.bits c.other.invariant,
) refl
