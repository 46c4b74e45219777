use Rattle.std.proofs.Common.{refl}
use Rattle.world_rules.proofs.Prelude.{lines_of_lives, after_births, after_burials, after_event, after_events, births_of, deaths_of, events_at, last_scene, placings_of, with_newborn, with_death, with_newcomer, founder_of, stats_in, new_organism, placements_of}
use Rattle.world_rules.proofs.tiny_worlds.an_update_tells_its_events.Goals as goal

pub returns : goal.returns
unfolding lines_of_lives last_scene deaths_of after_burials births_of placings_of after_births
    with_newborn events_at after_event after_events with_death with_newcomer stats_in founder_of
    new_organism placements_of
returns c = record { inject = λ o. refl; clear = λ o. refl; death = λ o. refl }
