-- What the proofs of this crate cite from outside most often, passed on from one place.
pub use Rattle.checkpoint.specs.Prelude.{After, Among, AreSaved, Before, Halfway, HasSavedForm, HeadValues, IsHead, IsMachineLine, IsOrganismLine, Occupant, Placed, SavedLine, SavedPlace, SavedState, are_within, cell_text, head_values, ids_of, is_above, is_new, is_young, may_follow, may_stand, organism_values, placed_in, placed_of, slot_text, state_of_lines, taken, told_saved_line, values_of_line, values_of_organism}
pub use Rattle.checkpoint.specs.Reading.{Ends, IsFaultOf, IsWritable, Steps, first_cells_text, saved_place_of}
pub use Rattle.checkpoint.specs.SoFarValue.{IsKept, SoFarValue, so_far_of}
pub use Rattle.lineage_log.proofs.LineWalkLaws.{cut}
pub use Rattle.saved_lines.specs.SavedForms.{OneSpelling}
pub use Rattle.saved_lines.specs.SavedReading.{saved_line_of}
pub use Rattle.saved_lines.specs.SavedText.{Count, Head, Organism}
unfoldable pub use Rattle.saved_lines.specs.SavedText.{count_text, saved_head_text}
pub use Rattle.saved_lines.specs.SavedValues.{OrganismValues}
pub use Rattle.saved_lines.specs.declared.resident.Resident.{Resident}
pub use Rattle.saved_worlds.proofs.ReadsSavedLemmas.{line_on}
pub use Rattle.saved_worlds.specs.SavedGrammar.{pieces_state, with_placed}
unfoldable pub use Rattle.saved_worlds.specs.SavedGrammar.{saved_of}
pub use Rattle.saved_worlds.specs.SavedState.{values_in}
unfoldable pub use Rattle.saved_worlds.specs.SavedState.{saved_text}
pub use Rattle.saved_worlds.specs.ValidState.{MayStandThere}
pub use Rattle.saved_worlds.specs.declared.saved_stop.SavedStop.{SavedStop}
pub use Rattle.std.proofs.Math.Seq.{get_or-append_seam, set-append_seam, take-length}
pub use Rattle.std.proofs.lemmas.Bool.{and_parts, leb-true, lt-ltb, ltb-true, ne_eqb}
pub use Rattle.std.proofs.lemmas.Bool.Decides.{nat_tests}
pub use Rattle.std.proofs.lemmas.List.{append-nil, length-replicate, map-append}
pub use Rattle.std.proofs.lemmas.List.Elements.{All-append, All-cons, All-from_recursion, recursion_from_All}
pub use Rattle.std.proofs.lemmas.List.Sums.{AllPass-from_list_all, list_all-from_AllPass, sum_by-cons}
pub use Rattle.std.proofs.lemmas.Option.{get_or_from_slice_get, slice_get-get_or, slice_get_within}
pub use Rattle.std.specs.BTreeSet.{BTreeSet, Updates, contains}
pub use Rattle.std.specs.Int.{w32}
pub use Rattle.std.specs.List.{AllByRecursion, enumerate_from, flat_map, list_all}
pub use Rattle.std.specs.Ordering.{nat_cmp}
pub use Rattle.virtual_cpu.specs.Machine.{IsMachine, Machine}
pub use Rattle.virtual_cpu.specs.View.{HoldsWords, image_of, machine_of_image}
pub use Rattle.virtual_cpu.specs.declared.cpu_image.CpuImage.{CpuImage}
pub use Rattle.world_rules.specs.World.{id_of}
