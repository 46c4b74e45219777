-- The words of other crates that this one cites most often, passed on from one place.
pub use Rattle.divide_rules.specs.Rules.{AreRules, RuleNumbers}
pub use Rattle.genome.specs.Genome.{IsGenome, letters}
pub use Rattle.instruction_set.specs.Letter.{byte_of, letter_of_byte}
pub use Rattle.instruction_set.specs.declared.letter.Letter.{Letter}
pub use Rattle.label_search.specs.Template.{IsTemplate, is_nop}
pub use Rattle.log_lines.specs.Fields.{Field, each, genome_field, given}
pub use Rattle.log_lines.specs.Kinds.{Row, large, last, ◌◂◌}
pub use Rattle.log_lines.specs.LineText.{Keeps, words_text}
pub use Rattle.logic_tasks.specs.Inputs.{HasTopBytes, inputs_of, low_of}
pub use Rattle.logic_tasks.specs.LogicTasks.{bits_of_tasks, tasks_of}
pub use Rattle.mutations.specs.Rates.{RateNumbers, numbers_of}
pub use Rattle.numerals.specs.Numeral.{number_of}
pub use Rattle.std.specs.Fmt.{signed_decimal}
pub use Rattle.std.specs.Int.{w32}
pub use Rattle.std.specs.List.{AllByRecursion, list_all, slice_split}
pub use Rattle.std.specs.Str.{bytes_eq}
pub use Rattle.virtual_cpu.specs.declared.cpu_image.CpuImage.{CpuImage}
