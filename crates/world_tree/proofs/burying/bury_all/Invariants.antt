use Rattle.world_tree.proofs.Prelude.{values_of, world_after, HasBuried, scene_after}
use Rattle.world_tree.proofs.burying.bury_all.Given as goal

-- those so far are buried
abbrev pub invariant-loop-id : goal.invariant-loop-id
invariant-loop-id l = HasBuried (world_after (values_of l.config) l.update)
    (scene_after (values_of l.config) l.update) l.id-index l.tree
