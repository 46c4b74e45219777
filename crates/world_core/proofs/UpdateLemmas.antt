-- The phases of an update lead to its scene, and their texts join.
use Rattle.std.proofs.Common.{◌≡◌, ◌∙◌, refl, ℕ, ◌+◌, List, [], ◌∷◌, ◌++◌, Option, length, map, append_assoc, append-nil, arith, ap}
use Rattle.world_core.proofs.Prelude.{length-map, length-map-range_with_len, lines_text, Line, Count, Stats, line_text, ConfigValues, Occupant, World, Scene, CellLife, life_at, lives_of, next_stats, scene_stats, birth_lines, event_lines, lines_of_lives, update_lines, Delivery, after_lives, lives_after, births_of, after_births, after_burials, after_events, last_scene, next_scene, scene_of_lives, departed_from, departure_line, staying_in}
use Rattle.std.proofs.lemmas.Grind.{flat_map-append}
use Rattle.world_core.proofs.BurialLemmas.{burial-lines-are, burials-are}
use Rattle.world_rules.proofs.Updates.{update_next}

-- the texts of an update's phases are the text of its lines
pub joined : (t : List ℕ) (a b c : List Line) (d : Line)
    → (((t ++ lines_text a) ++ lines_text b) ++ lines_text c) ++ line_text d
    ≡ t ++ lines_text (a ++ b ++ c ++ d ∷ [])
joined t a b c d = grind (arith, flat_map-append, append_assoc, append-nil)

-- each cell has its life
pub length_lived : (config : ConfigValues) (update : ℕ) (cells : List (Option Occupant))
    → length (map staying_in (lives_of config update cells)) ≡ length cells
unfolding lives_of
length_lived config update cells =
    length-map _ _ ∙ length-map-range_with_len (life_at config update cells) 0 (length cells)

-- the scenes of an update's phases, from the lives on
pub record Phases (config : ConfigValues) (w : World) (dead : List (ℕ × ℕ))
    (births : List Delivery) (s0 s1 s2 s3 : Scene) (stats : Stats) : Type 0 where
  pub lived : s0 ≡ record {
    update = w.update + 1;
    cells = map staying_in (lives_after config w);
    everyone = w.everyone;
    gone = [];
  }
  pub dead_are : dead ≡ departed_from 0 (lives_after config w)
  pub births_are : births ≡ births_of (lives_after config w)
  pub buried : s1 ≡ record s0 { gone = s0.gone ++ map (λ one. one.1) dead }
  pub placed : s2 ≡ after_births config s1 births
  pub happened : s3 ≡ after_events config s2
  pub counted : stats ≡ scene_stats s3 (length births)

module _ (config : ConfigValues) (w : World) (dead : List (ℕ × ℕ)) (births : List Delivery)
    (s0 s1 s2 s3 : Scene) (stats : Stats) (p : Phases config w dead births s0 s1 s2 s3 stats) where
  -- the lives
  abbrev lives : List CellLife
  lives = lives_after config w

  -- the scene after them
  abbrev lived_scene : Scene
  lived_scene = after_lives (w.update + 1) w.everyone lives

  -- the dead have left
  buried_is : s1 ≡ after_burials lived_scene lives
  buried_is = rw (p.buried, p.lived, p.dead_are, burials-are) refl

  -- the newborns stand in their cells
  placed_is : s2 ≡ after_births config (after_burials lived_scene lives) (births_of lives)
  placed_is = rw (p.placed, buried_is, p.births_are) refl

  -- the last scene is that of the update
  pub scene_of_phases : s3 ≡ next_scene config w
  unfolding next_scene scene_of_lives last_scene
  scene_of_phases = rw (p.happened, placed_is) refl

  -- so is what is counted
  pub stats_of_phases : stats ≡ next_stats config w
  unfolding next_stats
  stats_of_phases = rw (p.counted, scene_of_phases, p.births_are) refl

  -- what is counted, by the last scene
  counted_is : stats ≡ scene_stats (last_scene config lived_scene lives) (length (births_of lives))
  unfolding last_scene
  counted_is = rw (p.counted, p.happened, placed_is, p.births_are) refl

  -- their lines are those of the update
  pub lines_of_phases : map (departure_line (w.update + 1)) dead ++ birth_lines config s1 births
      ++ event_lines config s2 ++ Count stats ∷ [] ≡ update_lines config w
  unfolding update_lines lines_of_lives
  lines_of_phases =
      rw (counted_is, placed_is, buried_is, p.births_are, p.dead_are, burial-lines-are) refl

  -- an update is one more
  pub update_of_phases : s3.update ≡ w.update + 1
  unfolding next_scene
  update_of_phases = ap (λ (s : Scene). s.update) scene_of_phases ∙ update_next config w lives
