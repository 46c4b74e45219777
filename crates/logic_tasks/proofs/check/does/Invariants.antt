use Rattle.std.proofs.Common.{◌≡◌, ◌-◌, length}
use Rattle.std.specs.List.{list_any, range_with_len}
use Rattle.logic_tasks.specs.LogicTasks.{does_with, does}
use Rattle.logic_tasks.proofs.check.does.Given as goal

-- what the places that are left say
abbrev pub invariant-loop-first : goal.invariant-loop-first
invariant-loop-first l =
    list_any (does_with l.task l.output l.known) (range_with_len l.first (length l.known - l.first))
    ≡ does l.task l.output l.known
