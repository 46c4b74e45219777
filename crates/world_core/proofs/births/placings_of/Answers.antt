use Rattle.std.proofs.Common.{◌≡◌, ◌∙◌, ◌<◌, ◌*◌, ℕ, length, map, sym, arith, ap}
use Rattle.world_core.proofs.Prelude.{length-map, All-map, values_of, IfOk-weaker, placing_round_at, Delivery, placings_of, id_of, ids_of, IsDelivery, delivery_at, Delivered, SceneValue, scene_in}
use Rattle.birth_board.specs.declared.placing_round.PlacingRound.{PlacingRound}
use Rattle.birth_board.specs.Torus.{TorusNumbers}
use Rattle.birth_board.specs.Placement.{placements_of}
use Rattle.world_core.proofs.BirthOrderLemmas.{All-unmap, map-both}
use Rattle.world_core.proofs.births.placings_of.Goals as goal

pub place-requires : goal.place-requires
place-requires c =
    let torus = c.torus_of-torus.result in
    let births = c.args.lived.now.born.items in
    let at = delivery_at c.args.lived.now.ids.items in
    let are = c.in_ok-parents.ensures ∙ ap (map (λ (d : Delivered). d.cell)) c.deref.ensures.value in
    let cells = c.args.scene.now.cells in
    let parents = c.in_ok-parents.parents in
    let width = ap (λ (t : TorusNumbers). t.width) c.torus_of-torus.ensures in
    let height = ap (λ (t : TorusNumbers). t.height) c.torus_of-torus.ensures in
    let same : length cells ≡ torus.width * torus.height = rw (width, height) c.requires.size in
    let below : ℕ → Type 0 = λ cell. cell < torus.width * torus.height in
    let fit = All-unmap (IsDelivery (values_of c.args.config.now) (length cells)) at births c.requires.births.each in
    let number : length parents ≡ length births =
    ap length are ∙ length-map births _ in
    record {
      cells = ap length c.in_ok-board.ensures ∙ length-map c.cells.result.now id_of
          ∙ ap length c.cells.ensures.cells
          ∙ ap (λ (s : SceneValue). length s.cells) c.scene.view_is ∙ same;
      in_torus = rw are
          (All-map below _ births (λ k d within. rw (← same) (fit k d within).cell));
      rising = rw (are, ← map-both at (λ (d : Delivery). d.cell) births) c.requires.births.rising;
      few = omega (arith, number, c.requires.births.few, length-map births at);
      ids = omega (
        arith,
        number,
        c.requires.births.few,
        length-map births at,
        c.requires.few,
        c.next_id.ensures,
        ap (λ (s : PlacingRound). s.next_id) c.placing_round_at-round.ensures,
      );
    }

pub returns-clause-placings : goal.returns-clause-placings
unfolding placings_of
returns-clause-placings c =
    let births = c.args.lived.now.born.items in
    let at = delivery_at c.args.lived.now.ids.items in
    let scene = scene_in c.args.scene.now in
    let parents =
    c.in_ok-parents.ensures ∙ ap (map (λ (d : Delivered). d.cell)) c.deref.ensures.value
    ∙ sym (map-both at (λ (d : Delivery). d.cell) births) in
    let board = c.in_ok-board.ensures
    ∙ ap ids_of (c.cells.ensures.cells ∙ ap (λ (s : SceneValue). s.cells) c.scene.view_is) in
    let round = c.placing_round_at-round.ensures
    ∙ (λ i. placing_round_at (values_of c.args.config.now) (c.scene.view_is i).update
    (c.next_id.ensures i)) in
    IfOk-weaker c.place.result _ _
    (λ placings is. is.placings
    ∙ (λ i. (placements_of (c.torus_of-torus.ensures i) (parents i) (board i)
    (round i)).placings)) c.place.ensures.placings
