-- What the proofs of this crate cite from outside most often, passed on from one place.
pub use Rattle.lineage_log.specs.Ancestry.{AreOlder, CanCome, IsPruned, Link, TreeValue, ancestor_ids_of, ancestors_within, genome_in_tree, is_in_line, is_kept, link_of, parent_of, tree_with_death, tree_with_newcomer, without_id}
unfoldable pub use Rattle.lineage_log.specs.Ancestry.{kept_of, line_of_descent}
pub use Rattle.lineage_log.specs.LineWalk.{LinesRead, after_told, ended, last_end, one_piece, pieces_read}
pub use Rattle.lineage_log.specs.LogGrammar.{IsGoodLog, Reads, lines_text, log_answer, newer, pieces_log, stop_at, upgraded, with_line}
unfoldable pub use Rattle.lineage_log.specs.LogGrammar.{log_of}
pub use Rattle.lineage_log.specs.LogReading.{IsAtStart, TellsNext, left_of, place_of}
pub use Rattle.lineage_log.specs.Nodes.{AreFamilies, AreNeededBut, AreNodes, IsInFamily, IsSettled, NodeValue, as_child, children_of, id_order, is_needed, links_of, living_ids_of, node_at, node_link, tree_of}
pub use Rattle.lineage_log.specs.NumberedLines.{BeginsWith, EndsWith, Fault, HasGoodLines, LineKind, NoLine, OutOfOrder, Unended, and_on, text_of_lines, told_each}
pub use Rattle.lineage_log.specs.Order.{After, Before, IsWhole, LogPlace, Within, opened, told, told_all, within_if}
unfoldable pub use Rattle.lineage_log.specs.Order.{told_birth, told_cleared, told_count, told_death, told_end, told_injected, told_rate, told_start}
pub use Rattle.lineage_log.specs.Prelude.{AllByRecursion, Birth, BirthRecord, Cleared, Count, Death, End, Injected, Letter, Line, Rate, Start, child_of, keys_of, line_of, line_values, list_any, lookup, option_map_or, option_to_list, record_of, set_value, slice_split, sum_by, values_of}
pub use Rattle.lineage_log.specs.Reader.{EachIsKept, Reader, holds, kept_genomes, reader_with_death, reader_with_newcomer}
pub use Rattle.lineage_log.specs.Readings.{Tells, lines_of, reader_of, stop_of}
pub use Rattle.lineage_log.specs.ReadsLog.{ReadsLog, last_reader, log_kind}
pub use Rattle.lineage_log.specs.Replay.{LeavesReader, Resident, Seen, living_residents_of, resident_at, residents_from, seen_all, seen_on}
unfoldable pub use Rattle.lineage_log.specs.Replay.{replay_of}
pub use Rattle.lineage_log.specs.declared.log_reader.LogReader.{LogReader}
pub use Rattle.lineage_log.specs.declared.log_stop.LogStop.{LogStop}
pub use Rattle.lineage_log.specs.declared.reason.Reason.{Reason}
pub use Rattle.lineage_log.specs.declared.refusal.Refusal.{Refusal}
pub use Rattle.log_lines.proofs.FieldLaws.{split_first}
pub use Rattle.log_lines.specs.LineReading.{OneSpelling}
pub use Rattle.log_lines.specs.LineText.{HasForm, line_text, row_text}
pub use Rattle.std.proofs.lemmas.Bool.{and_parts, cases_Bool, cases_eq, cases_lt, cond-true, eqb-true, or_cases, or_parts, or_right}
pub use Rattle.std.proofs.lemmas.Bool.Decides.{nat_tests}
pub use Rattle.std.proofs.lemmas.Cmp.{eq_by_cmp_equiv, nat_eq_equiv}
pub use Rattle.std.proofs.lemmas.Grind.{common_steps}
pub use Rattle.std.proofs.lemmas.List.{drop_more, length-append, length-map, length-replicate, length-set, map-set, map_push, reverse-append}
pub use Rattle.std.proofs.lemmas.List.Elements.{filter-append}
pub use Rattle.std.proofs.lemmas.List.Folds.{Any-from_list_any, list_any-append, list_any_at}
pub use Rattle.std.proofs.lemmas.Map.{keys-set_value, lookup-none, lookup-remove_entry, lookup-set_value}
pub use Rattle.std.proofs.lemmas.Map.Entries.{lookup_from_place, none_below_head, none_past_head, sum_by-insert_entry, sum_by-remove_entry, sum_by-set_value}
pub use Rattle.std.proofs.lemmas.Map.Keys.{IsDistinct-from_sorted, IsDistinct-head, IsDistinct-tail, sorted_head, sorted_tail}
pub use Rattle.std.proofs.lemmas.Option.{get_or_from_slice_get, slice_get-map, slice_get_within}
pub use Rattle.std.specs.BTreeMap.{insert_entry, is_at}
pub use Rattle.std.specs.Cmp.{nat_cmp_is, nat_cmp_total, ranked, unsigned_tied}
pub use Rattle.std.specs.List.{IsDistinct, join_with_byte, onto_first}
unfoldable pub use Rattle.std.specs.List.Sorted.{IsStrictlySortedBy}
pub use Rattle.std.specs.Map.{remove_entry}
pub use Rattle.std.specs.Option.{option_map, unwrap_or}
pub use Rattle.std.specs.Ordering.{eq_by_cmp, is_eq}
