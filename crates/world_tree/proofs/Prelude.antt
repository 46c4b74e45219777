-- What the proofs of this crate cite from outside most often, passed on from one place.
pub use Rattle.lineage_log.proofs.LivingLemmas.{contains_more}
pub use Rattle.lineage_log.proofs.StandingLemmas.{get_more}
pub use Rattle.lineage_log.specs.Ancestry.{AreOlder, CanCome, Link, TreeValue, founded_by, is_kept, line_of_descent, link_of, tree_with_death, tree_with_newcomer, without_id}
unfoldable pub use Rattle.lineage_log.specs.Ancestry.{kept_of}
pub use Rattle.std.proofs.lemmas.Bool.{cases_Bool, cases_lt}
pub use Rattle.std.proofs.lemmas.List.{length-replicate, length-take, length_push, take-append-drop, take_all, take_more}
pub use Rattle.std.proofs.lemmas.List.Elements.{All-filter, Contains-append_left, Contains-get_or, Contains-push, Contains-push_cases, filter_passes}
pub use Rattle.std.proofs.lemmas.Option.{get_or_from_slice_get, option_and_then_some, slice_get-get_or, slice_get_within}
pub use Rattle.world_config.specs.Values.{values_of, ConfigValues}
pub use Rattle.world_laws.proofs.ListLemmas.{get_dropped, get_left, get_written}
pub use Rattle.world_laws.specs.Turnover.{HasBeen, HasGone, IsStanding, IsTurnover}
pub use Rattle.world_rules.specs.Descent.{AreNumbered, IsBelow, IsNumberedWorld, descent_line_of, descent_lines_of, line_of_parent}
pub use Rattle.world_rules.specs.Update.{world_of}
unfoldable pub use Rattle.world_rules.specs.Update.{next_world}
pub use Rattle.world_rules.specs.World.{Occupant, Scene, World, empty_cells, first_occupant, founder_link, id_of}
unfoldable pub use Rattle.world_rules.specs.World.{first_world}
unfoldable pub use Rattle.world_rules.specs.WorldRun.{world_after}
pub use Rattle.world_tree.specs.WorldTrees.{HasBuried, IsTreeOf, living_and_ancestors, scene_after}
