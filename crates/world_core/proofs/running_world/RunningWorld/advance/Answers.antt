use Rattle.std.proofs.Common.{◌≡◌, ◌∙◌, [], ap, arith, length, subst, sym, IfOk, ℕ}
use Rattle.world_core.proofs.Prelude.{IfOk-at_ok, values_of, ConfigValues, world_after, LiveOn, IsTreeOf, IsNext, IsLateTreeOf, SceneValue, IsWorldOf, WorldValue}
use Rattle.world_core.proofs.WorldLemmas.{everyone_is, is_late, next_text_is, next_world_is, without_gone}
use Rattle.world_core.proofs.running_world.RunningWorld.advance.Given as given
use Rattle.world_core.proofs.running_world.RunningWorld.advance.Goals.{In_ok-scene-2, In_ok-scene}
use Rattle.world_core.proofs.running_world.RunningWorld.advance.Goals as goal

-- the scene is the next one
next : (g : given.Over) (c : In_ok-scene g)
    → IsNext (values_of c.present.inside.config.value) c.present.inside.scene c.in_ok-scene.scene
    c.in_ok-scene.stats
next g c = subst (λ (config : ConfigValues).
    IsNext config c.present.inside.scene c.in_ok-scene.scene c.in_ok-scene.stats)
    (ap values_of c.deref-rules.ensures) c.in_ok-scene.ensures.next

pub next_scene-requires-clause-lives : goal.next_scene-requires-clause-lives
next_scene-requires-clause-lives g c l b =
    let now = c.present.inside in
    let own = values_of now.config.value in
    let update = ap (λ (s : SceneValue). s.update) c.scene.view_is in
    subst (LiveOn (values_of c.deref-rules.result.now)) (sym c.present.invariant.0.world)
    (subst (λ (config : ConfigValues). LiveOn config (world_after own now.scene.update))
    (sym (ap values_of c.deref-rules.ensures))
    (subst (λ (n : ℕ). LiveOn own (world_after own n)) update
    (subst (λ (config : ConfigValues). LiveOn config (world_after config c.scene.inside.update))
    (ap values_of c.deref-rules.ensures) c.organisms_live_on.ensures)))

pub left_behind-tree-requires-clause-world : goal.left_behind-tree-requires-clause-world
left_behind-tree-requires-clause-world g c =
    let now = c.present.inside in
    everyone_is (values_of now.config.value) now.scene c.in_ok-scene.scene now.stats
    c.in_ok-scene.stats c.present.invariant.0
    (next g (goal.at.left_behind-tree-requires-clause-world g c).In_ok-scene)

-- who came and who died have left the scene
settled : (g : given.Over) (c : In_ok-scene-2 g) → c.in_ok-scene-2.scene
    ≡ record c.in_ok-scene.scene { first = length c.in_ok-scene.scene.everyone; gone = [] }
settled g c = ap (λ v. v.0) c.in_ok-scene-2.ensures.value
    ∙ IfOk-at_ok (λ _. _) c.in_ok-scene-2.ensures.other c.left_behind-tree.ensures.scene

pub invariant_of-present : goal.invariant_of-present
invariant_of-present g c =
    let now = c.present.inside in
    let config = values_of now.config.value in
    let stats = c.in_ok-scene.stats in
    let shown = c.present.view_is ∙ c.self.view_is in
    let at = goal.at.invariant_of-present g c in (
      subst (λ (s : SceneValue). IsWorldOf config s stats) (sym (settled g at.In_ok-scene-2))
          (without_gone config _ stats (next_world_is config now.scene c.in_ok-scene.scene now.stats
          stats c.present.invariant.0 (next g at.In_ok-scene)
          (omega (arith, c.requires, ap (λ (v : WorldValue). v.update) shown)))),
      c.present.invariant.1,
      c.present.invariant.2,
    )

pub invariant_of-result : goal.invariant_of-result
invariant_of-result g c =
    let now = c.present.inside in
    let config = values_of now.config.value in
    let at = goal.at.invariant_of-result g c in
    let seen = ap (λ (s : SceneValue). s.update) c.scene.view_is in
    let trees = subst (λ (n : ℕ). IfOk c.in_ok-scene.grown (IsTreeOf (world_after config n))) seen
    (subst (λ (own : ConfigValues). IfOk c.in_ok-scene.grown
    (IsTreeOf (world_after own c.scene.inside.update))) (ap values_of c.deref-rules.ensures)
    c.in_ok-scene.ensures.meanwhile) in
    subst (λ (n : ℕ). IsLateTreeOf config n c.in_ok-scene-2.tree)
    (sym (ap (λ (s : SceneValue). s.update) (settled g at.In_ok-scene-2)))
    (is_late config now.scene c.in_ok-scene.scene now.stats c.in_ok-scene.stats
    c.in_ok-scene.grown c.in_ok-scene-2.tree c.present.invariant.0 (next g at.In_ok-scene) trees
    (IfOk-at_ok _ c.in_ok-scene-2.ensures.other c.left_behind-tree.ensures.tree))

pub returns-clause-text : goal.returns-clause-text
returns-clause-text g c =
    let now = c.present.inside in
    rw (← (c.present.view_is ∙ c.self.view_is))
    (ap (λ v. v.1.items) c.in_ok-scene-2.ensures.value
    ∙ next_text_is (values_of now.config.value) now.scene now.stats c.in_ok-scene.text.items
    c.present.invariant.0 (rw (ap values_of c.deref-rules.ensures) at c.in_ok-scene.ensures.text))
