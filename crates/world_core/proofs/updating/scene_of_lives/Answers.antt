use Rattle.std.proofs.Common.{◌∙◌, ap, length, subst}
use Rattle.world_core.proofs.Prelude.{values_of, AreDeliveries, deliveries_in, SceneValue}
use Rattle.world_core.proofs.UpdateLemmas.{length_lived}
use Rattle.world_core.proofs.updating.scene_of_lives.Goals as goal

pub returns-clause-deliveries : goal.returns-clause-deliveries
returns-clause-deliveries g c =
    subst (λ n. AreDeliveries (values_of c.args.config.now) n
    (deliveries_in c.in_ok-cells.lived))
    (ap length c.in_ok-cells.ensures.cells
    ∙ length_lived (values_of c.args.config.now) _ c.scene.inside.cells.cells
    ∙ ap (λ (s : SceneValue). length s.cells) c.scene.view_is)
    c.in_ok-cells.ensures.bounds.births

pub returns-clause-size : goal.returns-clause-size
returns-clause-size g c =
    ap length c.in_ok-cells.ensures.cells
    ∙ length_lived (values_of c.args.config.now) _ c.scene.inside.cells.cells
    ∙ ap (λ (s : SceneValue). length s.cells) c.scene.view_is
