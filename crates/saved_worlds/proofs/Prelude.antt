-- What the proofs of this crate cite from outside most often, passed on from one place.
pub use Rattle.log_lines.proofs.FieldLaws.{split_first}
pub use Rattle.mutations.specs.Rates.{RateNumbers}
pub use Rattle.mutations.specs.RecordForm.{IsWithin}
pub use Rattle.organism.specs.OrganismState.{OrganismState}
pub use Rattle.saved_lines.specs.SavedReading.{saved_line_of}
pub use Rattle.saved_lines.specs.SavedText.{SavedLine}
pub use Rattle.saved_lines.specs.SavedValues.{HeadValues}
pub use Rattle.saved_worlds.specs.Resuming.{config_of_head, forgotten, later_texts, with_world, world_of_state}
unfoldable pub use Rattle.saved_worlds.specs.Resuming.{continued_text, next_state, next_text, saved_state_after}
pub use Rattle.saved_worlds.specs.SavedGrammar.{Before, Placed, ReadsSaved, SavedPlace, pieces_state, saved_answer, saved_kind, state_of_lines, told_saved_line, with_placed}
unfoldable pub use Rattle.saved_worlds.specs.SavedGrammar.{saved_of}
pub use Rattle.saved_worlds.specs.SavedState.{SavedState, head_at, state_of_world}
unfoldable pub use Rattle.saved_worlds.specs.SavedState.{state_of}
pub use Rattle.saved_worlds.specs.ValidState.{AreRates, AreSaved, CanGoOn, FitsText, HasRoomFor, IsHead, IsHeadUpTo, MayLive}
pub use Rattle.std.proofs.lemmas.Bool.{and_parts, cases_eq, cases_lt, leb-true}
pub use Rattle.std.proofs.lemmas.Bool.Decides.{nat_tests}
pub use Rattle.std.proofs.lemmas.List.{length-replicate, length-set}
pub use Rattle.std.proofs.lemmas.List.Elements.{All-filter, recursion_from_All}
pub use Rattle.std.specs.List.{AllByRecursion, enumerate_from, range_with_len, scan}
pub use Rattle.world_config.specs.Events.{EventValue, WhatValue, clear, event_fits, event_values, inject, rate, what_fits}
pub use Rattle.world_config.specs.KeyTable.{Frame, frame_of}
pub use Rattle.world_config.specs.Values.{values_of, ConfigValues}
pub use Rattle.world_config.specs.declared.config.Config.{Config}
pub use Rattle.world_laws.specs.Ranges.{HasFewIds, HaveOwnIds, IsInRange, StandInRange, StayInRange}
pub use Rattle.world_rules.specs.Lives.{CellLife, cell_life, slice_at}
unfoldable pub use Rattle.world_rules.specs.Lives.{life_of, lives_of, slices_at}
pub use Rattle.world_rules.specs.LogText.{birth_line, birth_lines, death_line, death_lines, end_text, event_lines, head_text, updates_text}
unfoldable pub use Rattle.world_rules.specs.LogText.{lines_of_lives, log_text, update_lines, update_text}
pub use Rattle.world_rules.specs.Settings.{rates_after, rates_after_what, with_rate}
unfoldable pub use Rattle.world_rules.specs.Settings.{rates_at, settings_at}
pub use Rattle.world_rules.specs.Update.{Delivery, after_lives, birth_link, births_of, child_of_birth, deaths_of, lives_after, turns_of, world_of}
unfoldable pub use Rattle.world_rules.specs.Update.{after_births, after_burials, after_events, events_at, last_scene, next_scene, next_world, placings_of, scene_of_lives, with_newborn}
pub use Rattle.world_rules.specs.World.{Occupant, Scene, World, id_at, next_id, with_deaths}
unfoldable pub use Rattle.world_rules.specs.World.{with_death, with_newcomer}
unfoldable pub use Rattle.world_rules.specs.WorldRun.{world_after}
