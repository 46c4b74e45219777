use Rattle.std.proofs.Common.{List, [], ◌∷◌, ◌++◌, ap, fold}
use Rattle.world_rules.proofs.Prelude.{zip, scan, Placing, OrganismState, new_organism, death_lines, birth_line, event_lines, lines_of_lives, Scene, with_death, with_newcomer, stats_in, scene_stats, deaths_of, after_burials, births_of, placings_of, with_newborn, after_births, events_at, after_event, after_events, last_scene, tiny, fertile, scene_after_life}
use Rattle.log_lines.specs.Line.{Line, Count}
use Rattle.world_rules.proofs.TinyPlacings.{two_placed}
use Rattle.world_rules.proofs.tiny_worlds.newborns_take_the_only_cell.Goals as goal

-- the scene with the newborns in these places
abbrev born : OrganismState → List Placing → Scene
born o placings = fold (with_newborn (tiny []))
    (after_burials (scene_after_life 1 (fertile o)) (fertile o))
    (zip (births_of (fertile o)) placings)

-- the lines with them
abbrev lines_with : OrganismState → List Placing → List Line
lines_with o placings =
    death_lines (scene_after_life 1 (fertile o)) (deaths_of (fertile o))
    ++ scan (with_newborn (tiny [])) birth_line
    (after_burials (scene_after_life 1 (fertile o)) (fertile o))
    (zip (births_of (fertile o)) placings)
    ++ event_lines (tiny []) (born o placings)
    ++ Count (scene_stats (after_events (tiny []) (born o placings)) 2) ∷ []

pub returns : goal.returns
unfolding lines_of_lives last_scene deaths_of after_burials births_of placings_of after_births
    with_newborn events_at after_event after_events with_death with_newcomer stats_in new_organism
returns c o = ap (lines_with o) two_placed
