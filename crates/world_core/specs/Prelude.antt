-- The words of other crates that this one cites most often, passed on from one place.
pub use Rattle.cell_shards.specs.CellLives.{IsYoung, RoundNumbers, births_from, deaths_from, left_in, part_from, round_numbers, shard_lives_of, standing_in}
pub use Rattle.cell_shards.specs.Finishing.{IsNumbered, birth_of, genome_in, newborn_in}
pub use Rattle.cell_shards.specs.declared.delivered.Delivered.{Delivered}
pub use Rattle.census.specs.Changes.{CanRemove, CanRenew, HasOneFewer, count_under, with_renewal}
pub use Rattle.census.specs.Counts.{Counts, GenotypeCount, dominant_value, genotype_at, living_of}
pub use Rattle.genome.specs.Genome.{letters}
pub use Rattle.genotype_bank.specs.BankHistory.{HasEachOnce, SeatValue, all_shares, own_calls_of, with_genome}
pub use Rattle.instruction_set.specs.declared.letter.Letter.{Letter}
pub use Rattle.lineage_log.specs.Ancestry.{Link, TreeValue}
pub use Rattle.lineage_log.specs.LogGrammar.{lines_text}
pub use Rattle.log_lines.specs.Line.{Count, Death, Line, Rate}
pub use Rattle.log_lines.specs.LineText.{Keeps, line_text, words_text}
pub use Rattle.log_lines.specs.declared.stats.Stats.{Stats}
pub use Rattle.mutations.specs.BirthRecord.{record_of}
pub use Rattle.organism.specs.OrganismState.{OrganismState, new_organism, organism_of_image}
pub use Rattle.saved_lines.specs.SavedValues.{head_values, organism_values}
pub use Rattle.saved_worlds.specs.Resuming.{forgotten, next_state, next_text, world_of_state}
pub use Rattle.saved_worlds.specs.SavedGrammar.{state_of_lines, with_placed}
pub use Rattle.saved_worlds.specs.SavedState.{SavedState, head_at, state_of, state_of_world, values_in}
pub use Rattle.saved_worlds.specs.ValidState.{AreSaved, CanGoOn, IsHead, MayStandThere, placed_in}
pub use Rattle.std.specs.List.{All, enumerate_from, flat_map, sum_by, zip}
pub use Rattle.std.specs.List.Sorted.{IsNonDecreasing, IsPermutation}
pub use Rattle.std.specs.Option.{option_to_list}
pub use Rattle.world_config.specs.Events.{WhatValue, clear, inject, rate, what_value}
pub use Rattle.world_config.specs.Values.{values_of, ConfigValues}
pub use Rattle.world_laws.specs.Ranges.{LiveOn}
pub use Rattle.world_rules.specs.Lives.{CellLife, lives_of, merit_in, with_id}
pub use Rattle.world_rules.specs.LogText.{birth_line, birth_lines, cleared_line, end_text, event_lines, head_text, update_lines, update_text, what_lines}
pub use Rattle.world_rules.specs.Settings.{placing_round_at, rates_at, settings_at, torus_of, with_rate}
pub use Rattle.world_rules.specs.Statistics.{dominant_of, next_stats, organism_in, scene_stats, stats_in, stats_of}
pub use Rattle.world_rules.specs.Update.{Delivery, after_births, after_events, after_what, births_of, delivery_of, next_scene, placings_of, with_newborn, world_of}
pub use Rattle.world_rules.specs.World.{Occupant, Scene, World, cells_from, first_world, founder_link, founder_of, founder_words, id_at, id_of, ids_of, next_id, standing_at, with_death, with_deaths, with_newcomer}
pub use Rattle.world_rules.specs.WorldRun.{world_after}
pub use Rattle.world_tree.specs.WorldTrees.{IsTreeOf, living_and_ancestors, newcomers_of, scene_after}
pub use mathlib.Core.List.{IsPrefix}
