-- What the proofs of this crate cite from outside most often, passed on from one place.
pub use Rattle.atomic_table.proofs.Lists.{at_longer, at_set, at_snoc, one_turn, set_again, set_else, set_here}
pub use Rattle.atomic_table.specs.Table.{Allows, Final, Joins, Seen, Splits, State, gives, keeps, opening, rest, step, stepped, takes}
pub use Rattle.genome.specs.Genome.{different_of, letters}
pub use Rattle.genotype_bank.specs.BankHistory.{HasEachOnce, MakesCall, NumbersAgree, SeatValue, all_shares, call_of, calls_under, entry, genomes_of, genotypes_of, interned_genome, is_among, own_calls_of, with_call, with_genome}
pub use Rattle.genotype_bank.specs.BankSteps.{HasDrawn, HasLooked, HasRecalled, HasReleased, after_turn, at_turn, joined_view, kept_half, last_drawn_number, longer, memo_of, new_half, with_ticket}
pub use Rattle.genotype_bank.specs.BankTable.{IsBankTable, IsIdleSeat, Seated, call_in, genomes_in, last_call, letters_in, letters_of, seat_of}
pub use Rattle.genotype_bank.specs.Packing.{Packing, digit_of, full_word, packed, packing, packing_of, unpacked, with_letter, words_in}
unfoldable pub use Rattle.genotype_bank.specs.Packing.{letters_within}
pub use Rattle.genotype_bank.specs.Views.{AreSeats, AtMostOne, Carries, FitsHistory, NumbersArePlaces, SawOwn, SomeSeat, draws_of, first_view, idle_view, one_if, seat_share, spent_view, total}
pub use Rattle.genotype_bank.specs.declared.catalog.Catalog.{Catalog}
pub use Rattle.genotype_bank.specs.declared.view.Call.{Call}
pub use Rattle.genotype_bank.specs.declared.view.Entry.{Entry}
pub use Rattle.genotype_bank.specs.declared.view.View.{View}
pub use Rattle.instruction_set.specs.Letter.{index_of, same_letters}
unfoldable pub use Rattle.instruction_set.specs.Letter.{letter_at}
pub use Rattle.instruction_set.specs.declared.letter.Letter.{Letter}
pub use Rattle.std.proofs.Math.Nat.{mod-add-mod, pow-suc}
pub use Rattle.std.proofs.lemmas.Bool.{cases_Bool, le-ltb, lt-ltb, ltb-true, ne_eqb, or_cases, or_right}
pub use Rattle.std.proofs.lemmas.Bool.Decides.{Decides-eqb, nat_tests, same_from_decides}
pub use Rattle.std.proofs.lemmas.Grind.{common_steps, flat_map-append}
pub use Rattle.std.proofs.lemmas.List.Elements.{Contains-append_left, Contains-append_right, Contains-get_or, Contains-push, Contains-push_cases, filter-append, filter_map-append}
pub use Rattle.std.proofs.lemmas.List.Sorted.{Contains-permutation, IsPermutation-cons, IsPermutation-middle, IsPermutation-refl, IsPermutation-sym, IsPermutation-trans}
pub use Rattle.std.proofs.lemmas.Option.{get_or_from_slice_get, slice_get-map, slice_get_read, slice_get_within}
pub use Rattle.std.specs.Bool.{Decides}
pub use Rattle.std.specs.List.{cons_option, filter, filter_map, list_any}
pub use Rattle.std.specs.List.Sorted.{IsPermutation}
pub use lib.ListN.{get_elem?}
pub use mathlib.Core.List.{IsPrefix}
pub use mathlib.Core.Logic.{dite}
pub use mathlib.Core.Option.{none, some, some-injective, some-ne-none}
pub use native.Mathlib.Decide.{dec_lt, ℕ_discrete}
