use Rattle.std.proofs.Common.{length}
use Rattle.world_tree.proofs.Prelude.{values_of, world_after, scene_after}
use Rattle.world_tree.proofs.entering.enter_all.Given as goal
use Rattle.world_tree.proofs.EnterLemmas.{HasEntered}

-- those so far have entered
abbrev pub invariant-loop-newcomer : goal.invariant-loop-newcomer
invariant-loop-newcomer l =
    HasEntered (world_after (values_of l.config) l.update)
    (scene_after (values_of l.config) l.update) (length l.yielded) l.tree
