use Rattle.std.proofs.Common.{refl}
use Rattle.world_rules.proofs.Prelude.{world_after, after_births, after_burials, after_event, after_events, births_of, deaths_of, events_at, last_scene, next_scene, next_world, placings_of, scene_of_lives, lines_of_lives, update_lines, life_by, life_of, lives_of, slices_at, rates_at, settings_at, with_death, first_world, founder_of, stats_in, new_organism, after_step, death_in, life, life_state_after, life_step, step, slices_of}
use Rattle.world_rules.proofs.tiny_worlds.an_empty_world_goes_on.Goals as goal

pub returns : goal.returns
unfolding world_after next_world next_scene scene_of_lives update_lines lines_of_lives lives_of
    life_of life_by slices_at settings_at rates_at last_scene deaths_of after_burials births_of placings_of
    after_births events_at after_event after_events with_death stats_in first_world founder_of
    new_organism life death_in life_state_after after_step life_step step slices_of
returns c = record { lines = refl; nobody = refl }
