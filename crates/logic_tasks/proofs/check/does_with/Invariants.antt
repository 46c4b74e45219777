use Rattle.std.proofs.Common.{◌≡◌, ◌-◌, length}
use Rattle.std.specs.List.{list_any, range_with_len}
use Rattle.logic_tasks.specs.LogicTasks.{does_pair, does_with}
use Rattle.logic_tasks.proofs.check.does_with.Given as goal

-- what the places that are left say
abbrev pub invariant-loop-second : goal.invariant-loop-second
invariant-loop-second l =
    list_any (does_pair l.task l.output l.known l.first)
    (range_with_len l.second (length l.known - l.second))
    ≡ does_with l.task l.output l.known l.first
