-- What the proofs of this crate cite from outside most often, passed on from one place.
pub use Rattle.birth_board.specs.declared.placing.Placing.{Placing}
pub use Rattle.divide_rules.specs.Rules.{RuleNumbers}
pub use Rattle.genome.proofs.ListLemmas.{all_append}
pub use Rattle.genome.specs.Genome.{IsGenome, different_of}
pub use Rattle.instruction_set.specs.declared.letter.Letter.{Letter}
pub use Rattle.lineage_log.proofs.StandingLemmas.{People, all_filtered, get_more, get_other, get_pushed, get_seam, without}
pub use Rattle.lineage_log.specs.LogGrammar.{IsGoodLog, Reads, lines_text}
pub use Rattle.lineage_log.specs.Order.{After, Before, IsWhole, LogPlace, Within, and_on, at_next_update, told, told_all}
unfoldable pub use Rattle.lineage_log.specs.Order.{told_birth, told_cleared, told_count, told_death, told_end, told_injected, told_rate, told_start}
pub use Rattle.lineage_log.specs.Reader.{Reader, holds, may_be_born, may_die, parent_in, taken}
pub use Rattle.lineage_log.specs.Replay.{Seen, residents_from, seen_all, seen_on}
unfoldable pub use Rattle.lineage_log.specs.Replay.{replay_of}
pub use Rattle.lineage_log.specs.declared.stage.Stage.{Stage}
pub use Rattle.lineage_log.specs.declared.stage.Stage.TheVariants.{Dying, Happening, Quiet}
pub use Rattle.log_lines.specs.Line.{Cleared, Count, Death, End, Rate}
pub use Rattle.log_lines.specs.LineText.{HasForm, IsLarge, line_text}
pub use Rattle.logic_tasks.proofs.InputsLaws.{inputs_of-top}
pub use Rattle.logic_tasks.specs.Inputs.{HasTopBytes, inputs_of}
pub use Rattle.logic_tasks.specs.LogicTasks.{all_tasks, has_task, no_tasks, task_place}
pub use Rattle.logic_tasks.specs.declared.task.Task.{Task}
pub use Rattle.mutations.proofs.PointLemmas.{genome-fits}
pub use Rattle.mutations.specs.BirthRecord.{BirthRecord, child_of}
pub use Rattle.organism.specs.Life.{after_did, newly_done, next_input, older, with_done}
unfoldable pub use Rattle.organism.specs.Life.{after_output, life_step, renewed}
pub use Rattle.organism.specs.Lived.{IsBornOf}
unfoldable pub use Rattle.organism.specs.Lived.{life_by}
pub use Rattle.organism.specs.Newborns.{NewbornValue}
unfoldable pub use Rattle.organism.specs.OrganismState.{new_organism}
pub use Rattle.organism.specs.UpdateLife.{after_copy_of, after_outcome, copy_of, dies_at, ended, is_death, is_old, newborn_of}
unfoldable pub use Rattle.organism.specs.UpdateLife.{after_step, death_in, life, life_state_after}
pub use Rattle.organism.specs.declared.outcome.Outcome.{Outcome}
pub use Rattle.random_streams.specs.declared.purpose.Purpose.TheVariants.{Run}
pub use Rattle.std.proofs.Math.Nat.{div-lt_iff_lt-mul, mul-le-mul, mul-le-mul_left}
pub use Rattle.std.proofs.lemmas.Bool.{and_parts, cases_Bool, cases_eq, cases_lt, eq-eqb, false_from_ne_true, leb-true}
pub use Rattle.std.proofs.lemmas.Bool.Decides.{nat_tests}
pub use Rattle.std.proofs.lemmas.List.{append-nil, append_assoc, drop-append-le, drop_all, get_or_past, length-drop, length-map, length-replicate, length-set, map-append, map-set, set-get_or, take_all}
pub use Rattle.std.proofs.lemmas.List.Elements.{All-from_recursion, recursion_from_All}
pub use Rattle.std.proofs.lemmas.List.FromFn.{get_or-map-range_with_len, length-enumerate_from, length-map-range_with_len, length-range_with_len}
pub use Rattle.std.proofs.lemmas.List.Sums.{count_by-le-length, get_or-le-sum_by, length-filter, sum_by-cons, sum_by-take-le, sum_by_more}
pub use Rattle.std.proofs.lemmas.Option.{get_or_from_slice_get, slice_get-get_or, slice_get-map, slice_get_within}
pub use Rattle.std.specs.List.{cons_option, enumerate_from, filter_map, flat_map, list_any, range_with_len, scan, zip}
pub use Rattle.std.specs.Option.{option_to_list}
pub use Rattle.virtual_cpu.specs.Machine.{Machine, letter_under_ip}
pub use Rattle.virtual_cpu.specs.Step.{KeepsLimits, step}
pub use Rattle.world_config.specs.Events.{EventValue, WhatValue, clear, event_fits, event_values, inject, rate, what_fits}
pub use Rattle.world_config.specs.Values.{values_of}
pub use Rattle.world_laws.specs.Bounds.{FitsWhat, IsConfig, size_of}
pub use Rattle.world_laws.specs.LowerLaws.{LifeLaws, LineLaws}
pub use Rattle.world_laws.specs.Prelude.{AllByRecursion, AreNumbered, AreRules, Birth, ConfigValues, Injected, IsNumberedWorld, IsSoundOrganism, LifeState, Line, Link, Occupant, OrganismState, Scene, SettingNumbers, World, beginning, descent_line_of, descent_lines_of, draw, line_of_parent}
unfoldable pub use Rattle.world_laws.specs.Prelude.{IsDistinct}
pub use Rattle.world_laws.specs.Ranges.{GivesSmallId, HasFewIds, HasKept, HaveOwnIds, IsInRange, LiveOn, StandInRange, StayInRange}
pub use Rattle.world_laws.specs.Turnover.{AreDescended, ComesFrom, HasBeen, HasGone, IsChildOf, IsDescent, IsLastOfLine, IsStanding, IsTurnover}
pub use Rattle.world_rules.specs.Descent.{IsBelow}
unfoldable pub use Rattle.world_rules.specs.Descent.{line_in}
pub use Rattle.world_rules.specs.Lives.{CellLife, life_at, merit_in, no_life, slice_at}
unfoldable pub use Rattle.world_rules.specs.Lives.{life_of, lives_of, slices_at}
pub use Rattle.world_rules.specs.LogText.{ReplaysToLiving, birth_line, birth_lines, cleared_line, death_lines, event_lines, head_line, lines_of_event, updates_text, what_lines}
unfoldable pub use Rattle.world_rules.specs.LogText.{end_text, head_text, lines_of_lives, log_text, update_lines, update_text}
pub use Rattle.world_rules.specs.Settings.{placing_round_at, torus_of}
unfoldable pub use Rattle.world_rules.specs.Settings.{settings_at}
pub use Rattle.world_rules.specs.Statistics.{credited_with, genomes_of_cells, organisms_in, scene_stats}
unfoldable pub use Rattle.world_rules.specs.Statistics.{stats_in}
pub use Rattle.world_rules.specs.Update.{Delivery, after_lives, after_what, birth_link, births_by, births_in, child_of_birth, delivery_of, lives_after, turns_of}
unfoldable pub use Rattle.world_rules.specs.Update.{after_births, after_burials, after_event, after_events, births_of, deaths_of, events_at, last_scene, next_scene, next_world, placings_of, scene_of_lives, with_newborn}
pub use Rattle.world_rules.specs.World.{cells_from, empty_cells, first_occupant, founder_link, founder_words, genomes_ever, id_at, id_of, ids_of, next_id, standing_at, with_deaths}
unfoldable pub use Rattle.world_rules.specs.World.{first_world, founder_of, with_death, with_newcomer}
pub use Rattle.world_rules.specs.WorldRun.{resident_of, residents_of_world}
unfoldable pub use Rattle.world_rules.specs.WorldRun.{world_after}
