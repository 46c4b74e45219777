-- The words of other crates that this one cites most often, passed on from one place.
pub use Rattle.genome.specs.Genome.{letters}
pub use Rattle.genome.specs.GenomeText.{letters_text_of, spelled_by_letters}
pub use Rattle.genome.specs.declared.stop.GenomeStop.{GenomeStop}
pub use Rattle.instruction_set.specs.declared.letter.Letter.{Letter}
pub use Rattle.mutations.specs.Rates.{RateNumbers, name_of_rate, numbers_of, rate_named}
pub use Rattle.mutations.specs.RecordForm.{IsWithin}
pub use Rattle.std.specs.Cmp.Lexicographic.{slice_cmp}
pub use Rattle.std.specs.List.{AllPass, find, list_all, list_any}
pub use Rattle.std.specs.Option.{option_map, option_map_or, option_or}
pub use Rattle.std.specs.Ordering.{is_lt, match_ordering, nat_cmp}
pub use Rattle.std.specs.Str.{bytes_eq, is_utf8}
pub use Rattle.toml.specs.Data.{Data, Items, Members, array, as_str, boolean, get_member, integer, item, member, no_items, no_members, string, table}
pub use Rattle.toml.specs.View.{items_view, table_view, view}
