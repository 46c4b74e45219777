-- What the proofs of this crate cite from outside most often, passed on from one place.
pub use Rattle.genome.specs.Genome.{IsGenome, letters}
pub use Rattle.instruction_set.proofs.LetterLemmas.{OneIndex}
pub use Rattle.instruction_set.specs.Letter.{same_letter, same_letters}
pub use Rattle.instruction_set.specs.declared.letter.Letter.{Letter}
pub use Rattle.instruction_set.specs.declared.letter.Letter.TheVariants.{NopA}
pub use Rattle.mutations.specs.BirthRecord.{child_of, origin_of, written_in, written_of}
unfoldable pub use Rattle.mutations.specs.BirthRecord.{drawn_by_divide}
pub use Rattle.mutations.specs.Change.{Fits, Makes, PassState, Passed, has_place, is_genome_length, text_after, with_change}
pub use Rattle.mutations.specs.ChildTexts.{AreTextsOfChild, IsLengthWithin}
pub use Rattle.mutations.specs.DivideErrors.{Drawn, after_error, after_points, after_sites, in_turn, letter_of_word, none_by, pointed_text, points_from, site_text}
pub use Rattle.mutations.specs.Indels.{Draft, Spot, draft_after, has_room, indel_at, indels, indels_from, length_after, place_count, single_indel, single_rate, single_spot, site_indel, site_indels, site_rate, test_at, test_range}
pub use Rattle.mutations.specs.Rates.{LengthRange, RateNumbers, numbers_of, range_of}
pub use Rattle.mutations.specs.declared.change.Change.{Change}
pub use Rattle.mutations.specs.declared.change.Change.TheVariants.{Delete, Insert, Point}
pub use Rattle.mutations.specs.declared.indels.Indel.{Indel}
pub use Rattle.mutations.specs.declared.indels.Indel.TheVariants.{Deletion, Insertion}
pub use Rattle.mutations.specs.declared.indels.IndelTest.{IndelTest}
pub use Rattle.mutations.specs.declared.stop.ApplyStop.TheVariants.{Length, Place}
pub use Rattle.random_streams.specs.RandomStream.{Stream, hits, next_word, scaled, word_of}
pub use Rattle.std.proofs.lemmas.Grind.{common_steps}
pub use Rattle.std.specs.Bool.{Decides}
pub use Rattle.std.specs.List.{AllByRecursion, insert, remove}
