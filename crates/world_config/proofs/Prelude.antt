-- What the proofs of this crate cite from outside most often, passed on from one place.
pub use Rattle.genome.specs.Genome.{genome_of}
pub use Rattle.genome.specs.GenomeText.{before_line_end}
pub use Rattle.instruction_set.specs.Letter.{byte_of}
unfoldable pub use Rattle.instruction_set.specs.Letter.{letter_of_byte}
unfoldable pub use Rattle.mutations.specs.Rates.{rate_named}
pub use Rattle.mutations.specs.declared.rate_name.RateName.{RateName}
pub use Rattle.std.proofs.lemmas.Bool.{and_parts, cases_Bool, false≢true}
pub use Rattle.std.proofs.lemmas.List.{at_drop_more, drop_all, map-append, take_more}
pub use Rattle.std.proofs.lemmas.Result.{err_from_is_err_and}
pub use Rattle.std.proofs.lemmas.Str.{IsUtf8-from_is_utf8, IsUtf8-string_bytes, is_utf8-from_IsUtf8}
pub use Rattle.std.specs.Cmp.Lexicographic.{pointwise}
pub use Rattle.std.specs.List.{AllByRecursion, position_from}
pub use Rattle.std.specs.List.Sorted.{IsNonDecreasingBy}
unfoldable pub use Rattle.std.specs.List.Sorted.{IsStrictlySortedBy}
pub use Rattle.std.specs.String.{string_cmp}
pub use Rattle.toml.proofs.Views.{Entry, items_view-drop, items_view-push, table_get, view-Table}
pub use Rattle.toml.specs.Data.{depth, items_depth, members_depth, push_item}
pub use Rattle.toml.specs.View.{members_view}
pub use Rattle.toml.specs.declared.value.Value.{Value}
pub use Rattle.world_config.specs.Config.{config_in, unless_refused, values_with}
pub use Rattle.world_config.specs.EventForms.{both, clear_of, event_of, events_from, events_of, followed, genome_from, has_only, inject_of, more_events, number_from, rate_of, sized, what_of}
pub use Rattle.world_config.specs.EventTables.{event_members, insert_member, items_for}
pub use Rattle.world_config.specs.Events.{AreEvents, EventValue, WhatValue, clear, event_fits, event_refusal, event_value, event_values, frame_value, inject, rate, what_fits, what_value}
pub use Rattle.world_config.specs.Groups.{AreNumbers, number_keys, numbers_frame, printed_at}
pub use Rattle.world_config.specs.KeyTable.{Frame, Kind, default_ancestor, events, flag, frame_of, genome, key_name, key_row, keys, number}
pub use Rattle.world_config.specs.Lookup.{frame_in, item_count, items_of_value, letters_of_value, value_or}
unfoldable pub use Rattle.world_config.specs.Lookup.{flag_at, genome_at, items_at, number_at}
pub use Rattle.world_config.specs.Prelude.{AllPass, Data, Items, Letter, Members, array, as_str, boolean, bytes_eq, find, get_member, integer, is_lt, is_utf8, item, items_view, letters, letters_text_of, list_all, list_any, match_ordering, member, name_of_rate, no_items, no_members, option_map, option_or, slice_cmp, spelled_by_letters, string, table, table_view, view}
pub use Rattle.world_config.specs.Printing.{members_for, with_keys}
pub use Rattle.world_config.specs.Refusal.{first_refusal, least_of, least_unknown, refusal_of, unless_genome, unless_within}
unfoldable pub use Rattle.world_config.specs.Refusal.{is_known, refusal_at}
pub use Rattle.world_config.specs.Values.{values_of, ConfigValues, values_in_table}
pub use Rattle.world_config.specs.declared.key.Key.{Key}
pub use Rattle.world_config.specs.declared.key.Key.TheVariants.{Ancestor, Event}
pub use Rattle.world_config.specs.declared.stop.ConfigStop.{ConfigStop}
