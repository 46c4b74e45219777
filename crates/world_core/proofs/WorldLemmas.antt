-- The world after an update is again the world of its configuration.
use Rattle.std.proofs.Common.{◌≡◌, ◌∙◌, refl, sym, ap, ℕ, ◌+◌, ◌-◌, ◌<◌, ◌≤◌, List, [], Result, IfOk, drop, length, add-one, arith, rules}
use Rattle.world_core.proofs.Prelude.{IfOk-at_ok, Link, TreeValue, lines_text, Stats, ConfigValues, Scene, World, next_scene, next_world, world_of, world_after, next_stats, stats_of, update_lines, update_text, IsTreeOf, newcomers_of, scene_after, IsNext, IsLateTreeOf, IsLeftBehind, SceneValue, scene_in, IsWorldOf}
use Rattle.world_config.specs.declared.limits.TheConstants.{GREATEST_UPDATES}
use Rattle.world_core.specs.declared.late_tree.LateTree.{LateTree}
use Rattle.world_core.specs.declared.late_tree.LateTree.TheVariants.{Behind, Grown}

-- the world after one more update
pub world_after-more : (config : ConfigValues) (n : ℕ)
    → world_after config (n + 1) ≡ next_world config (world_after config n)
unfolding world_after
world_after-more config n = rw add-one refl

-- what is counted then
stats_of-more : (config : ConfigValues) (n : ℕ)
    → stats_of config (n + 1) ≡ next_stats config (world_after config n)
unfolding stats_of
stats_of-more config n = rw add-one refl

-- the text of that update
update_text-more : (config : ConfigValues) (n : ℕ)
    → update_text config (n + 1) ≡ lines_text (update_lines config (world_after config n))
unfolding update_text
update_text-more config n = rw add-one refl

-- the world that the next scene leaves
pub world_of-next : (config : ConfigValues) (before : SceneValue)
    → world_of (next_scene config (world_of (scene_in before)))
    ≡ next_world config (world_of (scene_in before))
unfolding next_world
world_of-next config before = refl

-- the scene with all of its organisms in the past
abbrev pub settled_scene : SceneValue → SceneValue
settled_scene s = record s { first = length s.everyone }

-- where the scene before was that of its configuration's world, so is the one after once it is
-- settled
pub next_world_is : (config : ConfigValues) (before after : SceneValue) (old stats : Stats)
    → IsWorldOf config before old → IsNext config before after stats
    → before.update < GREATEST_UPDATES → IsWorldOf config (settled_scene after) stats
next_world_is config before after old stats was is early = record {
  world = ap world_of is.scene ∙ world_of-next config before ∙ ap (next_world config) was.world
      ∙ sym (world_after-more config before.update) ∙ ap (world_after config) (sym is.update);
  counts = rw (is.update, stats_of-more, is.counts, was.world) refl;
  size = is.size ∙ was.size;
  few = omega (arith, is.few, was.few, is.update);
  settled = refl;
  updates = omega (arith, is.update, early);
  bank = is.bank.each was.bank;
}

-- all organisms in the scene at the end of an update are those of the next world
pub everyone_after : (config : ConfigValues) (n : ℕ)
    → (next_scene config (world_after config n)).everyone ≡ (world_after config (n + 1)).everyone
unfolding next_world
everyone_after config n = rw world_after-more refl

-- the text of the update after it
pub next_text_is : (config : ConfigValues) (before : SceneValue) (old : Stats) (text : List ℕ)
    → IsWorldOf config before old
    → text ≡ lines_text (update_lines config (world_of (scene_in before)))
    → text ≡ update_text config (before.update + 1)
next_text_is config before old text was is =
    rw (is, was.world, update_text-more) refl

-- who died in the update is no part of a world
pub without_gone : (config : ConfigValues) (s : SceneValue) (stats : Stats)
    → IsWorldOf config s stats → IsWorldOf config (record s { gone = [] }) stats
without_gone config s stats is = search rules

-- the scene at the end of the update after a world
pub scene_after_is : (config : ConfigValues) (before after : SceneValue) (old stats : Stats)
    → IsWorldOf config before old → IsNext config before after stats
    → scene_in after ≡ next_scene config (world_after config before.update)
scene_after_is config before after old stats was is =
    is.scene ∙ ap (next_scene config) was.world

-- all organisms in it are those of the world that it leaves
pub everyone_is : (config : ConfigValues) (before after : SceneValue) (old stats : Stats)
    → IsWorldOf config before old → IsNext config before after stats
    → after.everyone ≡ (world_after config after.update).everyone
everyone_is config before after old stats was is =
    rw (is.update, ← everyone_after) (ap (λ (s : Scene). s.everyone)
    (scene_after_is config before after old stats was is))

-- a tree of the world before is one update behind, with those who came and those who died
pub is_behind : (config : ConfigValues) (before after : SceneValue) (old stats : Stats)
    (tree : TreeValue) (newcomers : List Link) (gone : List ℕ)
    → IsWorldOf config before old → IsNext config before after stats
    → IsTreeOf (world_after config before.update) tree
    → newcomers ≡ drop after.first after.everyone → gone ≡ after.gone
    → (1 ≤ after.update) × IsTreeOf (world_after config (after.update - 1)) tree
    × (newcomers ≡ newcomers_of config (after.update - 1))
    × (gone ≡ (scene_after config (after.update - 1)).gone)
is_behind config before after old stats tree newcomers gone was is tree_is came died =
    let early : before.update ≡ after.update - 1 = omega (arith, is.update) in
    let scene = scene_after_is config before after old stats was is in
    let first = is.first ∙ was.settled ∙ ap (λ (w : World). length w.everyone) was.world in (
      omega (arith, is.update),
      rw (← early) tree_is,
      rw (← early, came) (λ i. drop (first i) (scene i).everyone),
      rw (← early, died) (ap (λ (s : Scene). s.gone) scene),
    )

-- the tree that grew in the update is one update behind the scene at its end
pub is_late : {E : Type 0} (config : ConfigValues) (before after : SceneValue) (old stats : Stats)
    (grown : Result TreeValue E) (late : LateTree)
    → IsWorldOf config before old → IsNext config before after stats
    → IfOk grown (IsTreeOf (world_after config before.update))
    → IsLeftBehind grown after late → IsLateTreeOf config after.update late
is_late config before after old stats grown (Grown tree) was is trees left = absurd left
is_late config before after old stats grown (Behind tree newcomers gone) was is trees left =
    is_behind config before after old stats tree newcomers.items gone.items was is
    (IfOk-at_ok (IsTreeOf (world_after config before.update)) left.0 trees) left.1 left.2
