use Rattle.std.proofs.Common.{◌∙◌, ℕ, ap, subst}
use Rattle.world_core.proofs.Prelude.{values_of, ConfigValues, world_after, state_of_world, CanGoOn, SceneValue}
use Rattle.world_core.proofs.ResumeLemmas.{run_goes_on, run_leaves}
use Rattle.world_core.proofs.world.World.into_state.Goals as goal

pub invariant_of-result : goal.invariant_of-result
invariant_of-result c =
    let now = c.present.inside in
    let own = values_of now.config.value in
    let valid : CanGoOn (state_of_world own (world_after own now.scene.update)) =
    subst (λ (n : ℕ). CanGoOn (state_of_world own (world_after own n)))
    (ap (λ (s : SceneValue). s.update) c.scene.view_is)
    (subst (λ (config : ConfigValues).
    CanGoOn (state_of_world config (world_after config c.scene.inside.update)))
    (ap values_of c.deref.ensures) c.runs_can_go_on.ensures.valid) in (
      run_goes_on own now.scene now.stats c.present.invariant.0 c.args.self
          (c.present.view_is ∙ c.self.view_is) c.requires valid,
      c.present.invariant.1,
      c.present.invariant.2,
    )

pub returns : goal.returns
returns c =
    let now = c.present.inside in
    run_leaves (values_of now.config.value) now.scene now.stats c.present.invariant.0 c.args.self
    (c.present.view_is ∙ c.self.view_is) c.requires
