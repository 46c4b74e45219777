use Rattle.std.proofs.Common.{◌≡◌, ◌∙◌, ◌*◌, None, List, Option, ap, fold, length, map, subst, sym}
use Rattle.world_core.proofs.Prelude.{IfOk-at_ok, length-replicate, head_values, forgotten, with_placed, placed_in, Occupant, KeepsPast, SceneValue}
use Rattle.world_core.proofs.ResumeLemmas.{world_made}
use Rattle.world_core.proofs.resuming.restored_scene.Given as given
use Rattle.world_core.proofs.resuming.restored_scene.Goals.{In_ok-scene-2}
use Rattle.world_core.proofs.resuming.restored_scene.Goals as goal

pub restore_all-restored-requires-clause-size : goal.restore_all-restored-requires-clause-size
restore_all-restored-requires-clause-size g c =
    ap length c.in_ok-scene.ensures.cells
    ∙ length-replicate (c.args.head.now.width * c.args.head.now.height) None

-- the cells and the past of what is restored
restored : (g : given.Over) (c : In_ok-scene-2 g)
    → (c.in_ok-scene-2.scene.cells ≡ fold with_placed c.in_ok-scene.scene.cells
    (map (placed_in (head_values c.args.head.now)) c.args.residents.items))
    × KeepsPast c.in_ok-scene.scene c.in_ok-scene-2.scene
restored g c =
    let same = c.in_ok-scene-2.ensures.value in
    let done = c.in_ok-scene-2.ensures.other in (
      ap (λ (s : SceneValue). s.cells) same
          ∙ IfOk-at_ok (λ _. _) done c.restore_all-restored.ensures.cells,
      subst (KeepsPast c.in_ok-scene.scene) (sym same)
          (IfOk-at_ok (λ _. _) done c.restore_all-restored.ensures.past),
    )

pub returns-clause-world : goal.returns-clause-world
returns-clause-world g c =
    let is = restored g (goal.at.returns-clause-world g c).In_ok-scene-2 in
    world_made (is.1.update ∙ c.in_ok-scene.ensures.update)
    (is.0 ∙ ap (λ (cells : List (Option Occupant)). fold with_placed cells
    (map (placed_in (head_values c.args.head.now)) c.args.residents.items))
    c.in_ok-scene.ensures.cells)
    (is.1.everyone ∙ c.in_ok-scene.ensures.everyone)

pub returns-clause-settled : goal.returns-clause-settled
returns-clause-settled g c =
    let past = (restored g (goal.at.returns-clause-settled g c).In_ok-scene-2).1 in
    past.first ∙ c.in_ok-scene.ensures.first
    ∙ sym (length-replicate c.args.head.now.next_id forgotten)
    ∙ ap length (sym (past.everyone ∙ c.in_ok-scene.ensures.everyone))
