use Rattle.std.proofs.Common.{◌∙◌, refl, ap, ◌<◌, length, get_or, eq-eqb, arith}
use Rattle.world_core.proofs.Prelude.{ne_eqb, SceneValue, scene_in}
use Rattle.world_core.proofs.GrowLemmas.{Grows_on, Grows_same}
use Rattle.world_core.proofs.EventLemmas.{way-start, way-past, way-on, event-can_happen, events-few}
use Rattle.world_core.proofs.events.apply_events.Goals.{then-event-update+in_ok-apply_event, else-event-update}
use Rattle.world_core.proofs.events.apply_events.Goals as goal

pub loop-at-init : goal.loop-at-init
loop-at-init g c =
    let first = scene_in c.args.scene.now in
    let start = c.args.text.now.items in
    record {
      way = rw (ap (λ (s : SceneValue). s.update) c.scene.view_is)
          (way-start c.args.config.now first start);
      size = refl;
      everyone = omega arith;
      first = refl;
      bank = Grows_same _ _ _ _ refl refl;
    }

pub apply_event-requires-clause-fits : goal.apply_event-requires-clause-fits
apply_event-requires-clause-fits g c =
    let config = c.args.config.now in
    let at = c.loop-at.at in
    let event = c.event-item.result in
    let events = c.as_slice-event-items.ensures in
    let within : at < length config.event = omega (arith, ap length events, c.loop-at-test.true) in
    rw (c.loop-at.invariant.size, c.requires.size) (event-can_happen config at event within
    (c.event-item.is ∙ ap (λ events. get_or events at event) events))

pub loop-at-preserved : goal.loop-at-preserved
loop-at-preserved g c =
    let config = c.args.config.now in
    let at = c.loop-at.at in
    let event = c.event-item.result in
    let events = c.as_slice-event-items.ensures in
    let within : at < length config.event = omega (arith, ap length events, c.loop-at-test.true) in
    let here = c.event-item.is ∙ ap (λ events. get_or events at event) events in
    let before = c.loop-at.invariant in
    let first = scene_in c.args.scene.now in
    let start = c.args.text.now.items in
    elim c.if-event-update.branch [
      | then-event-update+in_ok-apply_event w ↦
          let turn = w.in_ok-apply_event.ensures in
          record {
            way = way-on config c.scene.inside.update at event first (scene_in c.loop-at.scene)
                (scene_in c.if-event-update.scene) start c.loop-at.text.items
                c.if-event-update.text.items within here
                (eq-eqb event.update c.scene.inside.update w.if-event-update.true)
                (ap scene_in w.scene-is ∙ turn.scene)
                (ap (λ text. text.items) w.text-is ∙ turn.text) before.way;
            size = rw w.scene-is (turn.grown.0 ∙ before.size);
            everyone = rw w.scene-is (omega (arith, turn.grown.1, before.everyone));
            first = rw w.scene-is (turn.grown.2 ∙ before.first);
            bank = rw w.scene-is (Grows_on _ _ _ _ _ _ before.bank turn.grown.3);
          }
      | else-event-update w ↦
          let same = way-past config c.scene.inside.update at event first (scene_in c.loop-at.scene)
          start c.loop-at.text.items within here
          (ne_eqb event.update c.scene.inside.update w.if-event-update.false) before.way in
          record {
            way = rw (w.scene-is, w.text-is) same;
            size = rw w.scene-is before.size;
            everyone = rw w.scene-is (omega (arith, before.everyone));
            first = rw w.scene-is before.first;
            bank = rw w.scene-is before.bank;
          }
    ]

pub offset_bounds-event-items-at : goal.offset_bounds-event-items-at
offset_bounds-event-items-at g c =
    omega (arith, c.loop-at-test.true, c.as_slice-event-items.type_inv)

pub bounds-event-items-at : goal.bounds-event-items-at
bounds-event-items-at g c = c.loop-at-test.true

pub overflow_cast-at : goal.overflow_cast-at
overflow_cast-at g c =
    omega (arith, c.loop-at-test.true, events-few c.args.config.now _ c.as_slice-event-items.ensures)

pub overflow_add-at : goal.overflow_add-at
overflow_add-at g c =
    omega (arith, c.loop-at-test.true, events-few c.args.config.now _ c.as_slice-event-items.ensures)

pub apply_event-requires-clause-nth : goal.apply_event-requires-clause-nth
apply_event-requires-clause-nth g c =
    omega (arith, c.loop-at-test.true, events-few c.args.config.now _ c.as_slice-event-items.ensures)

pub returns-clause-everyone : goal.returns-clause-everyone
returns-clause-everyone g c = omega (
  arith,
  c.loop-at.invariant.everyone,
  c.loop-at.auto.at-end,
  events-few c.args.config.now _ c.as_slice-event-items.ensures,
)
