use Rattle.std.proofs.Common.{◌≡◌, ◌∙◌, ◌++◌, ◌∷◌, [], All, ap, length, map, subst, sym, ℕ, List, arith}
use Rattle.world_core.proofs.Prelude.{genome_in, Letter, lines_text, Count, line_text, values_of, birth_lines, event_lines, scene_stats, after_births, after_events, AreDeliveries, with_births, deliveries_in, departure_line, departures_in, HasNumber, genomes_ever, Grows, SceneValue, scene_in}
use Rattle.world_core.proofs.GrowLemmas.{Grows_births, Grows_on}
use Rattle.world_core.proofs.UpdateLemmas.{joined}
use Rattle.world_core.proofs.updating.end_update.Given as given
use Rattle.world_core.proofs.updating.end_update.Goals.{In_ok-place_births}
use Rattle.world_core.proofs.updating.end_update.Goals as goal

-- the scene once the newborns stand in their cells
placed : (g : given.Over) (c : In_ok-place_births g) → scene_in c.place_births.new.scene
    ≡ with_births (values_of c.args.config.now) (scene_in c.args.scene.now) (departures_in c.args.lived)
    (deliveries_in c.args.lived)
placed g c = c.in_ok-place_births.ensures.scene
    ∙ ap (λ (s : SceneValue). after_births (values_of c.args.config.now) (scene_in s)
    (deliveries_in c.args.lived)) c.in_ok-bury.ensures.scene

pub place_births-requires-clause-size : goal.place_births-requires-clause-size
place_births-requires-clause-size g c =
    ap (λ (s : SceneValue). length s.cells) c.in_ok-bury.ensures.scene ∙ c.requires.size

pub place_births-requires-clause-births : goal.place_births-requires-clause-births
place_births-requires-clause-births g c =
    subst (λ (n : ℕ). AreDeliveries (values_of c.args.config.now) n
    (deliveries_in c.args.lived))
    (sym (ap (λ (s : SceneValue). length s.cells) c.in_ok-bury.ensures.scene)) c.requires.births

pub place_births-requires-clause-numbers : goal.place_births-requires-clause-numbers
place_births-requires-clause-numbers g c =
    subst (λ (bank : List (List Letter)). All (HasNumber bank) c.args.lived.born.items)
    (sym (ap (λ (s : SceneValue). s.bank) c.in_ok-bury.ensures.scene)) c.requires.numbers

pub returns-clause-ends : goal.returns-clause-ends
returns-clause-ends g c =
    let config = values_of c.args.config.now in
    let births = c.args.lived.born.items in
    let first = c.args.scene.now in
    let last = c.place_births.new.scene in
    let buried = c.in_ok-bury.ensures.scene in
    record {
      scene = c.in_ok-apply_events.ensures.scene
          ∙ ap (after_events config) (placed g (goal.at.returns-clause-ends g c).In_ok-place_births);
      counts = c.stats-stats.ensures
          ∙ ap (scene_stats (scene_in c.apply_events.new.scene))
          (omega (arith, c.len-count.ensures));
      size = c.in_ok-apply_events.ensures.size ∙ c.in_ok-place_births.ensures.grown.0
          ∙ ap (λ (s : SceneValue). length s.cells) buried;
      few = omega (
        arith,
        c.in_ok-apply_events.ensures.everyone,
        c.in_ok-place_births.ensures.grown.1,
        ap (λ (s : SceneValue). length s.everyone) buried,
      );
      first = c.in_ok-apply_events.ensures.first ∙ c.in_ok-place_births.ensures.grown.2
          ∙ ap (λ (s : SceneValue). s.first) buried;
      bank = λ old takes. (let all = ap (λ (s : SceneValue). s.everyone) buried in
          let genomes = c.in_ok-place_births.ensures.grown.4
          ∙ ap (λ everyone. genomes_ever everyone ++ map genome_in births) all in
          let born : Grows old first.bank first.everyone last.everyone =
          Grows_births old first.bank first.everyone last.everyone births takes
          genomes in
          let same = c.in_ok-place_births.ensures.grown.3 ∙ ap (λ (s : SceneValue). s.bank) buried in
          Grows_on old last.bank c.apply_events.new.scene.bank first.everyone last.everyone
          c.apply_events.new.scene.everyone
          (subst (λ bank. Grows old bank first.everyone last.everyone) (sym same) born)
          c.in_ok-apply_events.ensures.bank);
    }

pub returns-clause-text : goal.returns-clause-text
returns-clause-text g c =
    let config = values_of c.args.config.now in
    let births = deliveries_in c.args.lived in
    let dead = map (departure_line c.args.scene.now.update) (departures_in c.args.lived) in
    let start = c.args.text.now.items in
    let stats = c.stats-stats.result in
    let all = placed g (goal.at.returns-clause-text g c).In_ok-place_births in
    let two = c.in_ok-place_births.ensures.text
    ∙ ap (λ (t : List ℕ). t ++ lines_text (birth_lines config (scene_in c.bury.new.scene) births))
    c.in_ok-bury.ensures.text in
    let three = c.in_ok-apply_events.ensures.text
    ∙ ap (λ (t : List ℕ). t ++ lines_text
    (event_lines config (scene_in c.place_births.new.scene))) two in
    c.in_ok-tell_count.ensures
    ∙ ap (λ (t : List ℕ). t ++ line_text (Count stats)) three
    ∙ joined start dead (birth_lines config (scene_in c.bury.new.scene) births)
    (event_lines config (scene_in c.place_births.new.scene)) (Count stats)
    ∙ (λ i. start ++ lines_text (dead
    ++ birth_lines config (scene_in (c.in_ok-bury.ensures.scene i)) births
    ++ event_lines config (all i) ++ Count stats ∷ []))
