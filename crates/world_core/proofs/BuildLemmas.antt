-- A saved world that is made of its lines.
use Rattle.std.proofs.Common.{◌≡◌, ◌∙◌, sym, ap, subst, ℕ, List, length, arith}
use Rattle.world_core.proofs.Prelude.{length-replicate, HeadValues, forgotten, world_of_state, Placed, state_of_lines, SavedState, head_at, state_of_world, CanGoOn, ConfigValues, world_of, IsState, state_in, SceneValue, scene_in}

-- a settled scene of the world of these lines can go on, where they can
pub state_built : (config : ConfigValues) (head : HeadValues) (placed : List Placed)
    (scene : SceneValue) → config.updates ≡ 0 → head_at config head.update head.next_id ≡ head
    → world_of (scene_in scene) ≡ world_of_state (state_of_lines head placed)
    → scene.first ≡ length scene.everyone → CanGoOn (state_of_lines head placed)
    → IsState config scene
state_built config head placed scene over same world settled valid =
    let whole = state_of_lines head placed in
    let numbered : ℕ → SavedState = λ n.
    record { head = head_at config head.update n; cells = whole.cells } in
    let headed : HeadValues → SavedState = λ h. record { head = h; cells = whole.cells } in
    let is : state_in config scene ≡ whole =
    ap (state_of_world config) world
    ∙ ap numbered (length-replicate head.next_id forgotten)
    ∙ ap headed same in
    record {
      over = omega (arith, over);
      settled = settled;
      valid = subst CanGoOn (sym is) valid;
    }
