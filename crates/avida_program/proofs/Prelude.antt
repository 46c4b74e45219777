-- What the proofs of this crate cite from outside most often, passed on from one place.
pub use Rattle.avida_port.specs.declared.sink.SinkStop.{SinkStop}
pub use Rattle.avida_program.specs.Commands.{CarriesOut, Does, Obeys, Reads, ReadsInput, Serves, Watches, leaves_world}
pub use Rattle.avida_program.specs.Endings.{GivesInput, GivesNoInput, OnBytes, ReadsAndWrites, SourceFailed, TellsOf, Work, WritesText, ended_by, error_at}
pub use Rattle.avida_program.specs.Input.{GivenBy, IsInputWith, ReadsLines, ReadsState, configuration_of, lineage_input_of, log_input_of, refused_as, resume_input_of, saved_input_of, unless_too_long, with_more}
pub use Rattle.avida_program.specs.Output.{GainedLogOf, LeavesFinal, advanced_text, bench_text, counts_line, last_lines, lines_of_tree, path_line, path_lines, path_text, resident_line, save_text}
unfoldable pub use Rattle.avida_program.specs.Output.{bench_config, sums_text}
pub use Rattle.avida_program.specs.Prelude.{Change, ConfigValues, Count, GainedText, IsEndOf, IsFinalWorld, Line, ReadsLog, SavedState, SinkState, SourceState, Stays, TracedStep, WorldValue, Writes, WritesAll, ancestor_line, base_line, byte_of, change, depth_line, end_text, entry_line, flat_map, head_text, later_texts, line_text, log_of, neighbour_line, next_text, range_with_len, run_text, saved_text, slot_text, survey_text, totals_line, traced_value, tree_text, unchanged, values_of, words_text, world_in}
pub use Rattle.avida_program.specs.SavedRuns.{AddsUp, AdvancesExactly, AdvancesInTwo, CanAdvanceInTwo, CanResume, ResumesExactly, ResumesInTwo, longer_run}
pub use Rattle.avida_program.specs.Status.{Ended, shown_byte, status_of}
pub use Rattle.avida_program.specs.TraceText.{remark_text, step_text, trace_line, trace_lines}
pub use Rattle.avida_program.specs.declared.call_error.CallError.{CallError}
pub use Rattle.avida_program.specs.declared.refusal.Refusal.{Refusal}
pub use Rattle.avida_program.specs.declared.refusal.Refusal.TheVariants.{Saved, Updates}
pub use Rattle.checkpoint.specs.Reading.{first_cells_text}
pub use Rattle.command_line.specs.CommandLine.{command_of, looks_of}
pub use Rattle.command_line.specs.declared.command.Command.{Command}
pub use Rattle.command_line.specs.declared.positional.Lineage.{Lineage}
pub use Rattle.command_line.specs.declared.run.Run.{Run}
unfoldable pub use Rattle.instruction_set.specs.Letter.{letter_of_byte}
pub use Rattle.landscape.specs.Landscape.{Landscape, totals_of}
pub use Rattle.landscape.specs.Trials.{organism_after, step_after}
pub use Rattle.landscape.specs.declared.entry.Entry.{Entry}
pub use Rattle.landscape.specs.declared.first_divide.Trial.{Trial}
pub use Rattle.log_lines.specs.Line.{line_values}
pub use Rattle.logged_run.specs.WatchedRun.{PutFailed, StopsRun}
pub use Rattle.organism.specs.TracedStep.{trace_step_of}
pub use Rattle.phylogeny.specs.TreeText.{pedigree_of, shape_line}
pub use Rattle.saved_worlds.proofs.Valid.{next_state_update, update_after}
unfoldable pub use Rattle.saved_worlds.specs.Resuming.{continued_text, next_state, saved_state_after}
pub use Rattle.saved_worlds.specs.SavedGrammar.{ReadsSaved, saved_of}
pub use Rattle.saved_worlds.specs.SavedState.{state_of_world}
unfoldable pub use Rattle.saved_worlds.specs.SavedState.{state_of}
pub use Rattle.std.proofs.lemmas.Bool.{cond-true, false≢true, lt-ltb}
pub use Rattle.std.proofs.lemmas.Grind.{common_steps, flat_map-append}
pub use Rattle.std.proofs.lemmas.Result.{err_from_is_err_and}
pub use Rattle.world_config.specs.Events.{AreEvents, EventValue, WhatValue, clear, inject, rate}
pub use Rattle.world_rules.proofs.Updates.{update_of}
pub use Rattle.world_rules.specs.LogText.{ReplaysToLiving, updates_text}
unfoldable pub use Rattle.world_rules.specs.LogText.{log_text}
unfoldable pub use Rattle.world_rules.specs.Settings.{rates_at, settings_at}
pub use Rattle.world_rules.specs.World.{Occupant, Scene, World, ids_of}
unfoldable pub use Rattle.world_rules.specs.World.{first_world, founder_of}
pub use Rattle.world_rules.specs.WorldRun.{residents_of_world}
unfoldable pub use Rattle.world_rules.specs.WorldRun.{world_after}
pub use Rattle.written_texts.proofs.GrowingTexts.{Grows, part_stopped, part_written}
pub use Rattle.written_texts.proofs.PieceLemmas.{writes_held, writes_short, writes_then}
pub use Rattle.written_texts.proofs.WriteLemmas.{kept_holds, kept_writes, never_fails, nothing_written, put_ended, put_written, stopped_same, writes_nothing, writes_same}
