-- The words of other crates that this one cites most often, passed on from one place.
pub use Rattle.genome.specs.Genome.{letters}
pub use Rattle.instruction_set.specs.declared.letter.Letter.{Letter}
pub use Rattle.log_lines.specs.Line.{Birth, Cleared, Count, Death, End, Injected, Line, Rate, Start, birth_values, line_values}
pub use Rattle.log_lines.specs.LineReading.{line_of}
pub use Rattle.log_lines.specs.declared.log_line.LogLine.{LogLine}
pub use Rattle.mutations.specs.BirthRecord.{BirthRecord, child_of, record_of}
pub use Rattle.std.specs.List.{AllByRecursion, list_any, slice_split, sum_by}
pub use Rattle.std.specs.Map.{keys_of, lookup, set_value, values_of}
pub use Rattle.std.specs.Option.{option_map_or, option_to_list}
