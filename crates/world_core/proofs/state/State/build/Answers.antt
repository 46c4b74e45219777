use Rattle.std.proofs.Common.{◌∙◌, List, ap, map}
use Rattle.world_core.proofs.Prelude.{head_values, Resident, world_of_state, state_of_lines, placed_in, values_of}
use Rattle.world_core.proofs.BuildLemmas.{state_built}
use Rattle.world_core.proofs.state.State.build.Goals as goal

pub invariant_of-result : goal.invariant_of-result
invariant_of-result g c =
    let head = head_values c.args.head in
    let placed = map (placed_in head) c.args.residents in
    let world = c.in_ok-scene.ensures.world
    ∙ ap (λ (items : List Resident).
    world_of_state (state_of_lines head (map (placed_in head) items))) c.into_vec.ensures in (
      state_built (values_of c.in_ok-config.config.value) head placed c.in_ok-scene.scene
          c.in_ok-config.ensures.over c.in_ok-config.ensures.head world
          c.in_ok-scene.ensures.settled (c.lines_can_go_on.ensures.valid head placed c.requires.valid),
      c.requires.workers.0,
      c.requires.workers.1,
    )
