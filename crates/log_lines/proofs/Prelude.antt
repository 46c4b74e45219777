-- What the proofs of this crate cite from outside most often, passed on from one place.
pub use Rattle.genome.proofs.ListLemmas.{some_map, some_then}
pub use Rattle.instruction_set.proofs.LetterLemmas.{find-passes, found_again}
pub use Rattle.instruction_set.specs.Letter.{letter_table}
unfoldable pub use Rattle.instruction_set.specs.Letter.{letter_of_byte}
pub use Rattle.log_lines.specs.Fields.{Field, each, genome_field, given, list_of, number, or_sign, where_true}
unfoldable pub use Rattle.log_lines.specs.Fields.{genome_of_word}
pub use Rattle.log_lines.specs.Forms.{LineForm, birth_form, cleared_form, count_form, death_form, end_form, forms, injected_form, plain_forms, rate_form, start_form}
pub use Rattle.log_lines.specs.Kinds.{Row, arrival_then, base_field, change_field, changes_field, death_row, large, last, over_field, rate_name, read_both, read_change, read_last, read_lettered, record_row, side, small, times, ◌◂◌}
pub use Rattle.log_lines.specs.Line.{Birth, Cleared, Count, Death, End, Injected, Line, Rate, Start, birth_values, change_text, line_values}
pub use Rattle.log_lines.specs.LineReading.{read_as, read_by, read_words}
unfoldable pub use Rattle.log_lines.specs.LineReading.{line_of}
pub use Rattle.log_lines.specs.LineText.{HasForm, Keeps, form_text, numbers_text, row_text, words_text}
pub use Rattle.log_lines.specs.Prelude.{AllByRecursion, Change, Delete, FitsChange, Insert, Letter, Point, byte_of, bytes_eq, in_order, is_genome_length, join_with_byte, slice_split}
pub use Rattle.log_lines.specs.Words.{ToChange, after_word, pieces_of, read_arrival, read_first, read_newborn, read_opening, read_then, words_of}
pub use Rattle.numerals.specs.Numeral.{OneNumber, digits_len, is_numeral, leading_digits}
unfoldable pub use Rattle.numerals.specs.Numeral.{number_of}
pub use Rattle.std.proofs.Math.Seq.{get_or-append_seam, take-append_seam}
pub use Rattle.std.proofs.lemmas.Bool.{cases_Bool, cases_eq, eqb-true}
pub use Rattle.std.proofs.lemmas.Bool.Decides.{nat_tests}
pub use Rattle.std.proofs.lemmas.Grind.{common_steps}
pub use Rattle.std.proofs.lemmas.List.{drop-set, get_or-set_same, get_or_default, length-map, length-set, length-take-le, map-append, take-append-drop, take-set-le, take_all, take_more}
pub use Rattle.std.proofs.lemmas.List.Splits.{join_with_byte-slice_split, slice_split_at, slice_split_none}
pub use Rattle.std.proofs.lemmas.Option.{cond_some, get_or_from_slice_get, slice_get-get_or, slice_get_within, some_pair_parts}
pub use Rattle.std.proofs.lemmas.Result.{IfOk-weaker}
pub use Rattle.std.specs.Char.{is_ascii_digit}
pub use Rattle.std.specs.List.{onto_first}
pub use Rattle.std.specs.Str.{all_ascii_digits}
