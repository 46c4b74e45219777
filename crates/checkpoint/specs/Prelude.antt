-- The words of other crates that this one cites most often, passed on from one place.
pub use Rattle.lineage_log.specs.Reader.{taken}
pub use Rattle.saved_lines.specs.SavedForms.{HasSavedForm, IsMachineLine, IsOrganismLine, values_of_line, values_of_organism}
pub use Rattle.saved_lines.specs.SavedText.{SavedLine, count_text, saved_head_text}
pub use Rattle.saved_lines.specs.SavedValues.{HeadValues, head_values, organism_values}
pub use Rattle.saved_worlds.specs.SavedGrammar.{After, Among, Before, Halfway, Placed, SavedPlace, are_within, is_above, is_new, is_young, last_saved_piece, may_follow, may_stand, placed_of, saved_of, state_of_lines, told_saved_line}
pub use Rattle.saved_worlds.specs.SavedState.{SavedState, cell_text, saved_text, slot_text, state_of, state_of_world}
pub use Rattle.saved_worlds.specs.ValidState.{AreSaved, CanGoOn, FitsText, HasRoomFor, IsHead, placed_in}
pub use Rattle.world_rules.specs.World.{Occupant, ids_of}
