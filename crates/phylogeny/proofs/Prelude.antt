-- What the proofs of this crate cite from outside most often, passed on from one place.
pub use Rattle.instruction_set.specs.declared.letter.Letter.{Letter}
pub use Rattle.lineage_log.proofs.AncestorLemmas.{Older, any_found, found_any, line, line_is}
pub use Rattle.lineage_log.proofs.StandingLemmas.{all_filtered}
pub use Rattle.lineage_log.specs.Ancestry.{ancestors_within}
pub use Rattle.lineage_log.specs.Order.{After, Before, LogPlace, Within, at_next_update, opened, told, told_all, within_if}
unfoldable pub use Rattle.lineage_log.specs.Order.{told_birth, told_cleared, told_count, told_death, told_end, told_injected, told_rate, told_start}
pub use Rattle.lineage_log.specs.Reader.{Reader, holds, reader_with_death, reader_with_newcomer}
pub use Rattle.log_lines.specs.Line.{Birth, Cleared, Count, Death, End, Injected, Line, Rate, Start, line_values}
pub use Rattle.phylogeny.specs.CommonAncestor.{Dweller, Pedigree, TellsLatestCommon, ancestors_of, depth_at, descends_from, founding_ancestor_of, is_branch, is_child, is_common, is_kept_id}
unfoldable pub use Rattle.phylogeny.specs.CommonAncestor.{branches_of, depths_of, kept_ids_of, most_recent_common_ancestor}
pub use Rattle.phylogeny.specs.Slots.{AreBelow, HaveLowerIds, IsPedigree, living_from, newcomer_parent, parent_at, parents_in, pedigree_with, standing_after, standing_on}
pub use Rattle.phylogeny.specs.TreeText.{dweller, newcomer, parent_by_lines, parent_told}
unfoldable pub use Rattle.phylogeny.specs.TreeText.{pedigree_of}
pub use Rattle.phylogeny.specs.declared.depths.Root.{Root}
pub use Rattle.phylogeny.specs.declared.shape.Shape.{Shape}
pub use Rattle.std.proofs.Math.ListN.{length-append, length-replicate, length-set}
pub use Rattle.std.proofs.lemmas.Bool.{and_parts, cases_Bool, eqb-true}
pub use Rattle.std.proofs.lemmas.Bool.Decides.{nat_tests}
pub use Rattle.std.proofs.lemmas.Grind.{common_steps}
pub use Rattle.std.proofs.lemmas.List.{drop_all, drop_more, get_or_default}
pub use Rattle.std.proofs.lemmas.List.Sums.{AllPass-from_list_all, count_by-le-length, length-filter, list_all-from_AllPass, sum_by-cons}
pub use Rattle.std.proofs.lemmas.Option.{get_or_from_slice_get, slice_get_within}
pub use Rattle.std.specs.List.{AllByRecursion, fold, last_or, list_all, list_any, range_with_len, reduce}
pub use Rattle.std.specs.Option.{option_map_or, option_or}
