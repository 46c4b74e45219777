use Rattle.std.proofs.Common.{◌∙◌, ◌++◌, [], ◌∷◌, ap, length, map, refl, subst, sym, ℕ, List, arith}
use Rattle.world_core.proofs.Prelude.{IfOk-at_ok, SceneValue, length-map, Link, lines_text, Count, values_of, birth_lines, event_lines, Scene, scene_stats, world_of, AreDeliveries, last_lines, with_births, with_departed, deliveries_in, delivery_at, departure_line, departures_in, Grows, scene_in}
use Rattle.world_core.proofs.UpdateLemmas.{Phases, lines_of_phases, scene_of_phases, stats_of_phases, update_of_phases}
use Rattle.world_core.specs.Endings.{Ends}
use Rattle.world_core.proofs.updating.next_scene.Given as given
use Rattle.world_core.proofs.updating.next_scene.Goals.{In_ok-scene-2}
use Rattle.world_core.proofs.updating.next_scene.Goals as goal

-- how the update ended
ended : (g : given.Over) (c : In_ok-scene-2 g)
    → Ends (values_of c.args.config.now) c.in_ok-scene.lived c.in_ok-scene.scene c.in_ok-scene-2.scene
    c.in_ok-scene-2.stats
ended g c =
    subst (λ (s : SceneValue). Ends (values_of c.args.config.now) c.in_ok-scene.lived
    c.in_ok-scene.scene s c.in_ok-scene-2.stats)
    (sym (ap (λ v. v.0) c.in_ok-scene-2.ensures.value))
    (IfOk-at_ok _ c.in_ok-scene-2.ensures.other c.end_update-stats.ensures.ends)

phases : (g : given.Over) (c : In_ok-scene-2 g)
    → Phases (values_of c.args.config.now) (world_of (scene_in c.args.scene)) (departures_in c.in_ok-scene.lived)
    (deliveries_in c.in_ok-scene.lived) (scene_in c.in_ok-scene.scene)
    (with_departed (scene_in c.in_ok-scene.scene) (departures_in c.in_ok-scene.lived))
    (with_births (values_of c.args.config.now) (scene_in c.in_ok-scene.scene) (departures_in c.in_ok-scene.lived)
    (deliveries_in c.in_ok-scene.lived))
    (scene_in c.in_ok-scene-2.scene) c.in_ok-scene-2.stats
phases g c = record {
  lived = c.in_ok-scene.ensures.scene;
  dead_are = c.in_ok-scene.ensures.dead;
  births_are = c.in_ok-scene.ensures.births;
  buried = refl;
  placed = refl;
  happened = (ended g c).scene;
  counted = (ended g c).counts
      ∙ ap (scene_stats (scene_in c.in_ok-scene-2.scene))
      (sym (length-map c.in_ok-scene.lived.born.items _));
}

pub end_update-stats-requires-clause-births : goal.end_update-stats-requires-clause-births
end_update-stats-requires-clause-births g c =
    subst (λ (n : ℕ). AreDeliveries (values_of c.args.config.now) n
    (deliveries_in c.in_ok-scene.lived)) (sym c.in_ok-scene.ensures.size)
    c.in_ok-scene.ensures.deliveries

pub end_update-stats-requires-clause-numbers : goal.end_update-stats-requires-clause-numbers
end_update-stats-requires-clause-numbers g c =
    c.in_ok-scene.ensures.bank.numbers

pub returns-clause-next : goal.returns-clause-next
returns-clause-next g c =
    let is = phases g (goal.at.returns-clause-next g c).In_ok-scene-2 in
    let ends = ended g (goal.at.returns-clause-next g c).In_ok-scene-2 in
    let all = ap (λ (s : Scene). s.everyone) c.in_ok-scene.ensures.scene in
    record {
      scene = scene_of_phases _ _ _ _ _ _ _ _ _ is;
      counts = stats_of_phases _ _ _ _ _ _ _ _ _ is;
      update = update_of_phases _ _ _ _ _ _ _ _ _ is;
      size = ends.size ∙ c.in_ok-scene.ensures.size;
      few = omega (
        arith,
        ends.few,
        ap length all,
        c.in_ok-scene.ensures.deliveries.few,
        length-map c.in_ok-scene.lived.born.items (delivery_at c.in_ok-scene.lived.ids.items),
      );
      first = ends.first ∙ c.in_ok-scene.ensures.first;
      bank = subst (λ (before : List Link). Grows c.args.scene.bank
          c.in_ok-scene-2.scene.bank before c.in_ok-scene-2.scene.everyone) all
          (ends.bank c.args.scene.bank c.in_ok-scene.ensures.bank);
    }

pub returns-clause-text : goal.returns-clause-text
returns-clause-text g c =
    let config = values_of c.args.config.now in
    let scene = scene_in c.in_ok-scene.scene in
    let dead = departures_in c.in_ok-scene.lived in
    let births = deliveries_in c.in_ok-scene.lived in
    let stats = c.in_ok-scene-2.stats in
    ap (λ v. v.1.items) c.in_ok-scene-2.ensures.value
    ∙ IfOk-at_ok _ c.in_ok-scene-2.ensures.other c.end_update-stats.ensures.text
    ∙ ap (λ (t : List ℕ). t ++ lines_text (last_lines config scene dead births stats))
    c.new-text.ensures.items
    ∙ ap (λ (n : ℕ). lines_text (map (departure_line n) dead
    ++ birth_lines config (with_departed scene dead) births
    ++ event_lines config (with_births config scene dead births) ++ Count stats ∷ []))
    (ap (λ (s : Scene). s.update) c.in_ok-scene.ensures.scene)
    ∙ ap lines_text (lines_of_phases _ _ _ _ _ _ _ _ _
    (phases g (goal.at.returns-clause-text g c).In_ok-scene-2))
