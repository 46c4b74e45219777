-- The words of other crates that this one cites most often, passed on from one place.
pub use Prim.Native.Char.{code}
pub use Rattle.instruction_set.specs.Letter.{byte_of, letter_of_byte}
pub use Rattle.instruction_set.specs.declared.letter.Letter.{Letter}
pub use Rattle.mutations.specs.BirthRecord.{BirthRecord, record_of, written_in}
pub use Rattle.mutations.specs.Change.{is_genome_length}
pub use Rattle.mutations.specs.Rates.{name_of_rate, rate_named}
pub use Rattle.mutations.specs.RecordForm.{FitsChange, HasGenomeLength, HasRecordForm, IsSmall, IsWithin, change_may_follow, in_order}
pub use Rattle.mutations.specs.declared.change.Change.{Change}
pub use Rattle.mutations.specs.declared.change.Change.TheVariants.{Delete, Insert, Point}
pub use Rattle.mutations.specs.declared.rate_name.RateName.{RateName}
pub use Rattle.numerals.specs.Numeral.{number_of}
pub use Rattle.random_streams.specs.RandomStream.{greatest_side, million}
pub use Rattle.std.specs.List.{AllByRecursion, join_with_byte, slice_split}
pub use Rattle.std.specs.Option.{option_map_or}
pub use Rattle.std.specs.Str.{bytes_eq}
