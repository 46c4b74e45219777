-- The words of other crates that this one cites most often, passed on from one place.
pub use Rattle.arrayvec.specs.ArrayVec.{array_vec_len}
pub use Rattle.assay.specs.Assay.{assay_line, assay_numbers, assay_text, assays_text, dominant_word, tally_line}
pub use Rattle.avida_port.specs.Ports.{IsAllOf, Rose, SinkState, SourceState}
pub use Rattle.divide_rules.specs.Rules.{rule_name_of}
pub use Rattle.genome.specs.Genome.{letters}
pub use Rattle.genome.specs.declared.stop.GenomeStop.{GenomeStop}
pub use Rattle.instruction_set.specs.Letter.{byte_of, name_of}
pub use Rattle.instruction_set.specs.declared.letter.Letter.{Letter}
pub use Rattle.landscape.specs.Landscape.{base_line, entry_line, landscape_text, neighbour_line, survey_text, totals_line, trial_text}
pub use Rattle.lineage_log.specs.LogGrammar.{log_of, upgraded}
pub use Rattle.lineage_log.specs.ReadsLog.{ReadsLog, lines_text}
pub use Rattle.lineage_log.specs.Replay.{Resident, replay_of}
pub use Rattle.lineage_log.specs.declared.log_stop.LogStop.{LogStop}
pub use Rattle.log_lines.specs.Line.{Count, Line, base_word, changes_word}
pub use Rattle.log_lines.specs.LineText.{line_text, numbers_text, words_text}
pub use Rattle.logged_run.specs.RunText.{IsEndOf, IsFinalWorld, births_until, run_text}
pub use Rattle.mutations.specs.BirthRecord.{BirthRecord, record_of}
pub use Rattle.organism.specs.TracedStep.{TracedRemark, TracedStep, divide, nothing, refused, remark_value, task, traced_value}
pub use Rattle.phylogeny.specs.TreeText.{ancestor_line, depth_line, tree_text}
pub use Rattle.saved_worlds.specs.Resuming.{continued_text, later_texts, next_state, next_text, saved_state_after}
pub use Rattle.saved_worlds.specs.SavedState.{SavedState, saved_text, slot_text, state_of}
pub use Rattle.saved_worlds.specs.declared.saved_stop.SavedStop.{SavedStop}
pub use Rattle.std.specs.Fmt.{signed_decimal}
pub use Rattle.std.specs.List.{flat_map, range_with_len}
pub use Rattle.world_config.specs.Config.{config_of, values_in_table}
pub use Rattle.world_config.specs.KeyTable.{key_name}
pub use Rattle.world_config.specs.Values.{values_of, ConfigValues}
pub use Rattle.world_core.specs.Scenes.{WorldValue, world_in}
pub use Rattle.world_rules.specs.Descent.{line_in}
pub use Rattle.world_rules.specs.LogText.{end_text, head_text, log_text}
pub use Rattle.written_texts.specs.NumberText.{spaced, spaced_value}
pub use Rattle.written_texts.specs.SinkChanges.{Change, GainedFront, GainedText, SinkFailed, Stays, change, unchanged}
pub use Rattle.written_texts.specs.WrittenText.{Writes, WritesAll}
