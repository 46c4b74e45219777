-- All organisms ever in a world, where those of its past are no longer in memory, and a tree that
-- may be one update behind its world (docs/ARCHITECTURE.md, "A tree of the living" and "The tree
-- grows late").
use Rattle.std.specs.Prelude.{ℕ, List, [], replicate, ◌≡◌, ◌-◌, ◌≤◌, Result, Ok, drop}
use Rattle.world_core.specs.Prelude.{Link, TreeValue, forgotten, values_of, world_after, ConfigValues, IsTreeOf, newcomers_of, scene_after}
use Rattle.world_core.specs.declared.everyone.Past.{Past}
use Rattle.world_core.specs.declared.everyone.Past.TheVariants.{Nobody, Run, Forgotten}
use Rattle.world_core.specs.Scenes.{SceneValue}
use Rattle.world_core.specs.declared.late_tree.LateTree.{LateTree}
use Rattle.world_core.specs.declared.late_tree.LateTree.TheVariants.{Behind, Grown}

-- all organisms ever, and how many of them were there when the world was last settled
pub record EveryoneValue : Type 0 where
  pub first : ℕ
  pub links : List Link

-- the organisms of the past
abbrev pub past_links : Past → List Link
past_links Nobody = []
past_links (Run config update) = (world_after (values_of config.value) update).everyone
past_links (Forgotten count) = replicate count forgotten

-- the tree after so many updates, or one update behind, with those who came and died in the last
abbrev pub IsLateTreeOf : ConfigValues → ℕ → LateTree → Type 0
IsLateTreeOf config update (Grown tree) = IsTreeOf (world_after config update) tree
IsLateTreeOf config update (Behind tree newcomers gone) =
    (1 ≤ update) × IsTreeOf (world_after config (update - 1)) tree
    × (newcomers.items ≡ newcomers_of config (update - 1))
    × (gone.items ≡ (scene_after config (update - 1)).gone)

-- a grown tree is one update behind this scene, with who came since it was settled, and who died
abbrev pub IsLeftBehind : {E : Type 0} → Result TreeValue E → SceneValue → LateTree → Type 0
IsLeftBehind grown scene (Grown tree) = ⊥
IsLeftBehind grown scene (Behind tree newcomers gone) =
    (grown ≡ Ok tree)
    × (newcomers.items ≡ drop scene.first scene.everyone) × (gone.items ≡ scene.gone)
