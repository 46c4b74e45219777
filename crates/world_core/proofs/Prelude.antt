-- What the proofs of this crate cite from outside most often, passed on from one place.
pub use Rattle.birth_board.specs.declared.placing.Placing.{Placing}
pub use Rattle.cell_shards.specs.CellLives.{born_in, dead_in, newborns_in, shard_life_at, shard_life_of, standing_of}
unfoldable pub use Rattle.cell_shards.specs.CellLives.{shard_lives_of}
pub use Rattle.cell_shards.specs.Finishing.{AreFinished, CanRun, IsFinished, call_for, part_of}
pub use Rattle.cell_shards.specs.Shards.{first_cell}
pub use Rattle.cell_shards.specs.declared.finished.Finished.{Finished}
pub use Rattle.cell_shards.specs.declared.job.Job.{Job}
pub use Rattle.cell_shards.specs.declared.standing.Standing.{Standing}
pub use Rattle.census.specs.Changes.{AreCounted, CanAdd, HasOneMore, genome_under, genotype_with_one, genotype_without_one, lowered, tasks_with, tasks_without}
pub use Rattle.census.specs.Counts.{AreGenotypes, HaveSameMembers}
pub use Rattle.genome.specs.Genome.{different_of}
pub use Rattle.genotype_bank.proofs.DifferentLemmas.{OneList, same_letters-equivalence, slice_get-begins, with_genome-begins}
pub use Rattle.genotype_bank.proofs.HistoryLemmas.{IsPrefix-trans}
pub use Rattle.genotype_bank.specs.BankHistory.{NumbersAgree, calls_under, genomes_of, genotypes_of}
pub use Rattle.genotype_bank.specs.declared.view.Entry.{Entry}
pub use Rattle.instruction_set.specs.Letter.{same_letters}
pub use Rattle.logic_tasks.specs.LogicTasks.{all_tasks, has_task, task_place}
pub use Rattle.logic_tasks.specs.declared.task.Task.{Task}
pub use Rattle.merit_slices.specs.Slices.{slices_of}
pub use Rattle.mutations.specs.Rates.{RateNumbers, numbers_of}
pub use Rattle.organism.specs.Lived.{HasLived, IsBornOf, IsSoundOrganism, OrganismLife, beginning, ended_life}
unfoldable pub use Rattle.organism.specs.Lived.{life_by}
pub use Rattle.organism.specs.Newborns.{NewbornValue}
unfoldable pub use Rattle.organism.specs.OrganismState.{new_organism}
pub use Rattle.organism.specs.UpdateLife.{life}
pub use Rattle.random_streams.specs.RandomStream.{after, draw}
pub use Rattle.random_streams.specs.declared.purpose.Purpose.TheVariants.{Run}
pub use Rattle.saved_lines.specs.SavedValues.{HeadValues}
pub use Rattle.saved_lines.specs.declared.resident.Resident.{Resident}
pub use Rattle.saved_worlds.proofs.Quiet.{map_same}
pub use Rattle.saved_worlds.specs.SavedGrammar.{Placed}
unfoldable pub use Rattle.saved_worlds.specs.SavedState.{state_of}
pub use Rattle.std.proofs.Math.ListN.{set}
pub use Rattle.std.proofs.Math.Seq.{map-set_same, take-length}
pub use Rattle.std.proofs.lemmas.Bool.{and_parts, cases_Bool, cases_eq, cases_lt, eqb-false, eqb-true, false_from_ne_true, leb-true, ltb-false, ne_eqb}
pub use Rattle.std.proofs.lemmas.Bool.Decides.{Decides-like, nat_tests, same_from_decides}
pub use Rattle.std.proofs.lemmas.Grind.{common_steps, get_or-set_at}
pub use Rattle.std.proofs.lemmas.Iterator.{YieldsList, YieldsList-from_zip, zips}
pub use Rattle.std.proofs.lemmas.List.{at_drop_more, drop_all, drop_more, get_or-append_right, get_or-map, get_or-set_same, get_or_append_left, get_or_at, get_or_default, get_or_past, get_or_read, length-append, length-drop, length-map, length-replicate, length-set, length-take-le, length_push, map-append, map-id, map-set, map_more, map_push, nil_from_length, reverse-append, set-get_or, set_at, take-append-drop, take-take, take_all, take_more}
pub use Rattle.std.proofs.lemmas.List.Concat.{flat_map-append}
pub use Rattle.std.proofs.lemmas.List.Elements.{All-append, All-cons, All-get_or, All-head, All-map, All-nil, All-replicate, All-same, All-set, All-tail, All-weaker, Contains-append_cases, Contains-append_left, Contains-append_right, Contains-get_or, filter_map-append}
pub use Rattle.std.proofs.lemmas.List.Folds.{sum_by-replicate}
pub use Rattle.std.proofs.lemmas.List.FromFn.{get_or-map-range_with_len, get_or-range_with_len, length-map-range_with_len, length-range_with_len}
pub use Rattle.std.proofs.lemmas.List.Sorted.{IsPermutation-append_left, IsPermutation-refl, IsPermutation-sym, IsPermutation-trans}
pub use Rattle.std.proofs.lemmas.List.Sums.{count_by-le-length, fold_more, get_or-le-sum_by, sum_by-cons, sum_by-le, sum_by-set}
pub use Rattle.std.proofs.lemmas.Option.{slice_get-get_or, slice_get_within}
pub use Rattle.std.proofs.lemmas.Result.{IfOk-at_ok, IfOk-weaker, on_ok_weaker}
pub use Rattle.std.proofs.lemmas.Slice.Zip.{firsts-zip, get_or-zip, length-zip}
pub use Rattle.std.specs.Bool.{Decides}
pub use Rattle.std.specs.List.{AllPass, Contains, IsDistinct, count_by, filter_map, list_any, range_with_len, scan}
pub use Rattle.std.specs.Option.{option_map, unwrap_or}
pub use Rattle.std.specs.Vec.Iter.{into_iter_items, into_iter_len, into_iter_steps}
pub use Rattle.virtual_cpu.specs.View.{image_of, machine_of_image}
pub use Rattle.world_config.specs.Events.{EventValue, event_fits, event_value, event_values, what_fits}
pub use Rattle.world_config.specs.KeyTable.{Frame, frame_of}
pub use Rattle.world_config.specs.declared.event.Event.{Event}
pub use Rattle.world_core.specs.Bounds.{AreBounded, AreBoundedLives, AreDeliveries, CanStand, IsBoundedIn, IsDelivery}
pub use Rattle.world_core.specs.Endings.{CanHappen, IsNext, deliveries_in, delivery_at, delivery_from, departed_from, departed_in, departure_by, departure_line, departures_in, last_lines, round_of, staying_in, with_births, with_departed}
pub use Rattle.world_core.specs.LateTrees.{EveryoneValue, IsLateTreeOf, IsLeftBehind}
pub use Rattle.world_core.specs.Population.{AreCountedIn, AreDifferent, AreKeptBeside, AreSummedIn, CanCountChange, CountsChange, IsKeptOf, PopulationValue, is_credited, is_genome, merit_or_zero, occupant_genome, occupant_genomes, occupants_of}
pub use Rattle.world_core.specs.Prelude.{All, CanGoOn, CanRemove, CanRenew, CellLife, ConfigValues, Count, Counts, Death, Delivered, Delivery, GenotypeCount, HasEachOnce, HasOneFewer, IsNonDecreasing, IsNumbered, IsPermutation, IsPrefix, IsTreeOf, IsYoung, Letter, Line, Link, LiveOn, MayStandThere, Occupant, OrganismState, RoundNumbers, SavedState, Scene, SeatValue, Stats, TreeValue, WhatValue, World, after_what, birth_line, birth_lines, birth_of, births_from, cells_from, clear, cleared_line, count_under, deaths_from, delivery_of, enumerate_from, event_lines, flat_map, forgotten, founder_link, genome_in, genotype_at, head_at, head_values, id_at, id_of, ids_of, inject, left_in, letters, line_text, lines_text, living_of, merit_in, newcomers_of, next_id, next_state, next_text, option_to_list, organism_in, organism_of_image, own_calls_of, part_from, placed_in, placing_round_at, rate, round_numbers, scene_after, scene_stats, standing_in, state_of_lines, state_of_world, sum_by, values_in, values_of, what_lines, what_value, with_deaths, with_genome, with_id, with_placed, world_of, world_of_state, zip}
pub use Rattle.world_core.specs.Scenes.{Grows, HasNumber, IsResidentIn, IsState, IsWorldOf, KeepsPast, SceneValue, TakesIn, WorldValue, genomes_ever, scene_in, state_in, with_occupant, world_in}
pub use Rattle.world_core.specs.Sharding.{FollowShares, IsJoined, LieSideBySide, PartCells, ShareSeat, load_before, load_of, seat_from, seat_without, share_before}
pub use Rattle.world_core.specs.declared.lived.Lived.{Lived}
pub use Rattle.world_laws.proofs.ListLemmas.{map-replicate}
pub use Rattle.world_laws.specs.Turnover.{IsStanding}
pub use Rattle.world_rules.specs.Lives.{life_at, no_life, slice_at}
unfoldable pub use Rattle.world_rules.specs.Lives.{life_of, lives_of, slices_at}
pub use Rattle.world_rules.specs.LogText.{death_line, death_lines, lines_of_event}
unfoldable pub use Rattle.world_rules.specs.LogText.{lines_of_lives, update_lines, update_text}
pub use Rattle.world_rules.specs.Settings.{rates_after}
unfoldable pub use Rattle.world_rules.specs.Settings.{settings_at}
pub use Rattle.world_rules.specs.Statistics.{counted_in, credited_with, genomes_of_cells, organisms_in}
unfoldable pub use Rattle.world_rules.specs.Statistics.{dominant_of, next_stats, stats_in, stats_of}
pub use Rattle.world_rules.specs.Update.{after_lives, births_by, births_in, lives_after, turns_of}
unfoldable pub use Rattle.world_rules.specs.Update.{after_births, after_burials, after_event, after_events, births_of, deaths_of, events_at, last_scene, next_scene, next_world, placings_of, scene_of_lives, with_newborn}
pub use Rattle.world_rules.specs.World.{empty_cells}
unfoldable pub use Rattle.world_rules.specs.World.{first_world, founder_of, with_death, with_newcomer}
unfoldable pub use Rattle.world_rules.specs.WorldRun.{world_after}
