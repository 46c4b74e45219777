-- The tree of a world (docs/WORLD.md, "Lines of descent").
use Rattle.std.specs.Prelude.{◌≡◌, ℕ, ◌<◌, Contains, Some, length, slice_get, List, drop, filter_map}
use Rattle.lineage_log.specs.Ancestry.{kept_of, TreeValue, Link}
use Rattle.world_rules.specs.World.{Scene, World, id_of}
use Rattle.world_laws.specs.Turnover.{HasBeen, IsStanding}
use Rattle.world_config.specs.Values.{ConfigValues}
use Rattle.world_rules.specs.Update.{next_scene}
use Rattle.world_rules.specs.WorldRun.{world_after}

-- nobody with this id is among the first so many that died
abbrev pub IsLeft : Scene → ℕ → ℕ → Type 0
IsLeft scene count id = (place : ℕ) → place < count → slice_get scene.gone place ≡ Some id → ⊥

-- all that came have entered, and so many of those that died are buried
pub record HasBuried (w : World) (scene : Scene) (count : ℕ) (tree : TreeValue) : Type 0 where
  pub links : tree.links ≡ kept_of scene.everyone tree.living
  pub living : (id : ℕ) → Contains tree.living id
      → HasBeen w.cells (length w.everyone) (length scene.everyone) id × IsLeft scene count id
  pub each : (id : ℕ) → HasBeen w.cells (length w.everyone) (length scene.everyone) id
      → IsLeft scene count id → Contains tree.living id

-- the living stand in the cells, and the links are those of the living and their ancestors
pub record IsTreeOf (w : World) (tree : TreeValue) : Type 0 where
  pub links : tree.links ≡ kept_of w.everyone tree.living
  pub living : (id : ℕ) → Contains tree.living id → IsStanding w.cells id
  pub standing : (id : ℕ) → IsStanding w.cells id → Contains tree.living id

-- the links of those that stand and of their ancestors
abbrev pub living_and_ancestors : World → List Link
living_and_ancestors w = kept_of w.everyone (filter_map id_of w.cells)

-- the scene at the end of the update after so many
abbrev pub scene_after : ConfigValues → ℕ → Scene
scene_after config update = next_scene config (world_after config update)

-- those that come in that update, in the order of ids
abbrev pub newcomers_of : ConfigValues → ℕ → List Link
newcomers_of config update =
    drop (length (world_after config update).everyone) (scene_after config update).everyone
