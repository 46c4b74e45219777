-- What the proofs of this crate cite from outside most often, passed on from one place.
pub use Rattle.clap.specs.Facts.{explicit_source}
pub use Rattle.clap.specs.Faults.{built_fault, check_fault, default_fault, fault_of, settle_fault, turn_fault, word_fault}
unfoldable pub use Rattle.clap.specs.Faults.{defaults_fault, flags_fault, walk_fault}
pub use Rattle.clap.specs.Kinds.{Kinds, or_else}
pub use Rattle.clap.specs.Lexer.{long_of, name_and_value, short_of, usize_max}
pub use Rattle.clap.specs.Simple.{App, Shape, built, filled, filled_from, matches_of, names_of, new_shape}
pub use Rattle.clap.specs.Takes.{is_given}
pub use Rattle.clap.specs.Walk.{Held, Row, Rule, Text, Waiting, Walk, arg_by_id, arg_by_index, arg_by_long, arg_by_short, default_rows, finished, first_of, has_row, idle, nothing_held, option, reading_by, rows_after, settled, settled_rows, takes_values, used, value, walk_from, with_default, with_values, without, word_met}
unfoldable pub use Rattle.clap.specs.Walk.{bundle_met, walked}
pub use Rattle.clap.specs.Words.{HasKind, IsAmong, app_of, found_of, is_simple, is_simple_and_free, kind_of, rows_of}
pub use Rattle.clap.specs.declared.error.kind.ErrorKind.{ErrorKind}
pub use Rattle.clap.specs.declared.parser.matches.ValueSource.TheVariants.{CommandLine, DefaultValue}
pub use Rattle.command_line.specs.Form.{Form, IsSimple, Told, Valued, are_distinct, has_name, is_comma, option_names, three_numbers_of}
pub use Rattle.command_line.specs.Parsers.{all_of, app_by, flag_rule, is_given_true, option_rule, positional_rule, told_in}
pub use Rattle.command_line.specs.Reading.{IsOf, IsReadableRow, IsRefusedBy, IsTold, NoMinus, Refuses, refused_by}
pub use Rattle.command_line.specs.Rows.{CommandRow, assay_row, landscape_row, nothing_row, positional_row, run_row, save_row, told_by_row, trace_row}
pub use Rattle.command_line.specs.Words.{Given, as_word, begins_dashed, has_dashed, is_dashed, is_set, kind_of_word, names, next_where, read_from, told_by, told_with_defaults, undashed, value_or_wait, with_flag, with_option, with_option_value, with_positional}
pub use Rattle.command_line.specs.declared.refused.Refused.{Refused}
pub use Rattle.command_line.specs.declared.refused.Refused.TheVariants.{BadWords, Memory}
pub use Rattle.std.proofs.Math.Bool.{and-false, or-false, or-true}
pub use Rattle.std.proofs.lemmas.Bool.{cases_Bool, eqb-true, false≢true, or_parts, or_right}
pub use Rattle.std.proofs.lemmas.Grind.{common_steps}
pub use Rattle.std.proofs.lemmas.List.{drop_all, length-map, map-set}
pub use Rattle.std.proofs.lemmas.List.Folds.{list_all-append, list_any-append}
pub use Rattle.std.proofs.lemmas.Option.{slice_get-map, slice_get_within}
pub use Rattle.std.proofs.lemmas.Result.{err_from_is_err_and}
pub use Rattle.std.specs.List.{after_first, before_first, list_all, list_any, position_or_len}
pub use Rattle.std.specs.Option.{ok_or, option_map_or, option_or, option_to_list}
pub use Rattle.std.specs.Str.{bytes_eq, chars}
