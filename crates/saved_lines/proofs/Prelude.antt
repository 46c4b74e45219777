-- What the proofs of this crate cite from outside most often, passed on from one place.
pub use Rattle.genome.proofs.ListLemmas.{some_map, some_then}
unfoldable pub use Rattle.instruction_set.specs.Letter.{letter_of_byte}
pub use Rattle.log_lines.proofs.FieldLaws.{Above, IsField, IsRow, above_letters, above_lower, chosen, each_takes, last_law, letters_again, letters_law, letters_taken, not_equal, number_law, row_law, same_bytes}
pub use Rattle.log_lines.proofs.ListLaws.{each_length}
pub use Rattle.log_lines.proofs.TextLemmas.{words_text-append, words_text_more}
pub use Rattle.log_lines.proofs.TimesLemmas.{first_parts, front_more, map_more}
pub use Rattle.log_lines.specs.LineText.{form_text}
pub use Rattle.log_lines.specs.Words.{read_first, words_of}
pub use Rattle.logic_tasks.specs.TaskBitsLaws.{bit_at-number_of, get_or-tasks_of, length-tasks_of, number_of-small, number_of-tasks_of}
pub use Rattle.numerals.specs.Numeral.{OneNumber, is_numeral}
unfoldable pub use Rattle.numerals.specs.Numeral.{number_of}
pub use Rattle.saved_lines.specs.Prelude.{AllByRecursion, CpuImage, Field, HasTopBytes, IsTemplate, Letter, Row, bits_of_tasks, byte_of, bytes_eq, each, genome_field, given, inputs_of, is_nop, large, last, list_all, low_of, signed_decimal, slice_split, tasks_of, w32, words_text, ◌◂◌}
pub use Rattle.saved_lines.specs.SavedFields.{are_nops, below_zero, mark_of, marks, nops, read_nops, read_signed, signed, some_nops}
pub use Rattle.saved_lines.specs.SavedForms.{HasSavedForm, IsHead, IsMachineLine, IsOrganismLine, values_of_line}
pub use Rattle.saved_lines.specs.SavedReading.{are_ordered, head_of, machine_at, machine_of, organism_at, organism_of, read_form, read_saved_words, saved_head_line, saved_number_at}
unfoldable pub use Rattle.saved_lines.specs.SavedReading.{saved_line_of}
pub use Rattle.saved_lines.specs.SavedRows.{AreWithin, Front, if_last, read_several, read_within, several, whole, with_item, within, ◌◁◌}
pub use Rattle.saved_lines.specs.SavedTables.{MachineFields, any_flag, head_ranges, head_row, machine_ranges, machine_row, organism_ranges, organism_row, texts_row}
pub use Rattle.saved_lines.specs.SavedText.{Count, Head, Machine, Organism, SavedLine, digit_of, flag_number, head_numbers, machine_numbers, machine_words, nops_text, organism_numbers, saved_row_text, signed_words}
unfoldable pub use Rattle.saved_lines.specs.SavedText.{organism_text}
pub use Rattle.saved_lines.specs.SavedValues.{HeadValues, OrganismValues, organism_values}
pub use Rattle.saved_lines.specs.declared.range.Range.{Range}
pub use Rattle.std.proofs.lemmas.Bool.{and_from, and_parts, cases_Bool, eqb-true, le-leb, leb-true}
pub use Rattle.std.proofs.lemmas.Bool.Decides.{nat_tests}
pub use Rattle.std.proofs.lemmas.Int.{to_z-of_z, to_z_pos}
pub use Rattle.std.proofs.lemmas.List.{drop_all, drop_more, length-map, map-append, take_all, take_more}
pub use Rattle.std.proofs.lemmas.Option.{cond_some, get_or_from_slice_get, slice_get-get_or, slice_get_within, some_pair_parts}
pub use Rattle.std.specs.Int.{cast_signed, cast_unsigned}
pub use Rattle.std.specs.List.{join_with_byte}
