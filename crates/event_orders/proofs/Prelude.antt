-- What the proofs of this crate cite from outside most often, passed on from one place.
pub use Rattle.event_orders.specs.Orders.{GoesOnWith, IsInterleaving, IsScheduleFor, LooksNeverFall, ShowsEachUpdate, StartsUpdate, is_gather, newborns_for}
pub use Rattle.event_orders.specs.Schedule.{IsLawful, IsSchedule, MayGather, state_after, state_after_event, with_seen, with_value_at}
pub use Rattle.event_orders.specs.State.{State, genome_entry, injected_by, injections_at, life_in, newborn_genomes, opening, result_of, results_of}
pub use Rattle.event_orders.specs.declared.schedule.ScheduleEvent.{ScheduleEvent}
pub use Rattle.event_orders.specs.declared.schedule.ScheduleEvent.TheVariants.{Gather, Hear, Intern, Look, Publish, Run}
pub use Rattle.genotype_bank.specs.BankHistory.{HasEachOnce, genomes_of, genotypes_of, interned_genome}
pub use Rattle.genotype_bank.specs.declared.view.Entry.{Entry}
pub use Rattle.instruction_set.specs.declared.letter.Letter.{Letter}
pub use Rattle.lineage_log.proofs.StandingLemmas.{get_pushed}
pub use Rattle.published_world.specs.PublicationHistory.{last_of}
pub use Rattle.std.proofs.Math.Seq.{take-length}
pub use Rattle.std.proofs.lemmas.Bool.{cases_Bool, cases_eq, eq-eqb, ne_eqb}
pub use Rattle.std.proofs.lemmas.Bool.Decides.{eqb_tells}
pub use Rattle.std.proofs.lemmas.Grind.{fold-append}
pub use Rattle.std.proofs.lemmas.List.{get_or_default, length-map, map-append, take_more}
pub use Rattle.std.proofs.lemmas.List.Elements.{Contains-append_cases, Contains-append_left, Contains-append_right, Contains-get_or, Contains-push, Contains-push_cases, filter_map-append}
pub use Rattle.std.proofs.lemmas.List.FromFn.{fill_by_all, get_or-map-range_with_len, length-map-range_with_len}
pub use Rattle.std.proofs.lemmas.List.Sums.{fold_push, sum_by-append}
pub use Rattle.std.proofs.lemmas.Option.{get_or_from_slice_get, none-some, same_Some, slice_get-get_or, slice_get_within}
pub use Rattle.std.specs.List.{AllByRecursion, cons_option, enumerate_from, filter_map, flat_map, range_with_len, zip}
pub use Rattle.world_config.specs.Values.{values_of, ConfigValues}
pub use Rattle.world_rules.specs.Lives.{CellLife, life_at, no_life, slice_at}
unfoldable pub use Rattle.world_rules.specs.Lives.{life_of, lives_of}
pub use Rattle.world_rules.specs.Picture.{PictureValue}
unfoldable pub use Rattle.world_rules.specs.Picture.{picture_of}
pub use Rattle.world_rules.specs.Update.{Delivery, after_lives, after_what, birth_link, births_by, births_in, child_of_birth, deaths_of, delivery_of, events_at, world_of}
unfoldable pub use Rattle.world_rules.specs.Update.{after_births, after_burials, after_event, after_events, births_of, last_scene, next_scene, next_world, placings_of, scene_of_lives, with_newborn}
pub use Rattle.world_rules.specs.World.{Occupant, Scene, World, cells_from, founder_link, founder_of, genomes_ever, ids_of, next_id}
unfoldable pub use Rattle.world_rules.specs.World.{first_world, with_death, with_newcomer}
unfoldable pub use Rattle.world_rules.specs.WorldRun.{world_after}
pub use mathlib.Core.List.{map-map}
