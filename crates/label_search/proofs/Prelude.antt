-- What the proofs of this crate cite from outside most often, passed on from one place.
pub use Rattle.instruction_set.specs.Letter.{complement_of, index_of, same_letter, same_letters}
unfoldable pub use Rattle.instruction_set.specs.Letter.{letter_at}
pub use Rattle.instruction_set.specs.declared.letter.Letter.{Letter}
pub use Rattle.instruction_set.specs.declared.letter.Letter.TheVariants.{NopA, NopB, NopC}
pub use Rattle.label_search.specs.Search.{OccursAt, begins_with, first_match, occurs_at}
pub use Rattle.label_search.specs.Site.{IsRest, Site, clean_in, copied_in, executed_in, letters_of, rest_of}
pub use Rattle.label_search.specs.Template.{IsTemplate, complements_of, digit_of_nop, is_nop, letter_after, nop_of, nops_read, packed_after, packed_of}
unfoldable pub use Rattle.label_search.specs.Template.{newest_first, template_after}
pub use Rattle.std.proofs.Math.Nat.{div-div-eq-div-mul, eq-or-lt_of_le, mod-add-mod, mod-eq_of_lt}
pub use Rattle.std.proofs.lemmas.Bool.Decides.{not_from_Decides, same_from_decides}
pub use Rattle.std.proofs.lemmas.Grind.{common_steps}
pub use Rattle.std.proofs.lemmas.List.{drop-map, drop_more, get_or-reverse, get_or-take, length-drop, length-map, length-reverse, length-take, map-append, reverse-append, reverse-reverse, take-append-drop}
pub use Rattle.std.specs.Bool.{Decides}
pub use Rattle.std.specs.Cmp.Lexicographic.{pointwise}
pub use Rattle.std.specs.List.{find, prefix_len, range_with_len, take_while}
