-- What the proofs of this crate cite from outside most often, passed on from one place.
pub use Rattle.birth_board.specs.Placement.{Board, placing_words}
unfoldable pub use Rattle.birth_board.specs.Placement.{chosen_cell, next_board, placements_of, placing_of}
unfoldable pub use Rattle.merit_slices.specs.Slices.{slices_of}
unfoldable pub use Rattle.organism.specs.Life.{life_step}
unfoldable pub use Rattle.organism.specs.Lived.{life_by}
unfoldable pub use Rattle.organism.specs.OrganismState.{new_organism}
unfoldable pub use Rattle.organism.specs.UpdateLife.{after_step, death_in, life, life_state_after}
unfoldable pub use Rattle.std.specs.Fmt.{digits}
pub use Rattle.std.specs.List.{AllByRecursion}
unfoldable pub use Rattle.virtual_cpu.specs.Step.{step}
pub use Rattle.world_rules.specs.Descent.{AreNumbered, HasPlaceAsId, IsBelow, IsNumberedWorld, descent_line_of, line_of_parent, with_descent_line}
unfoldable pub use Rattle.world_rules.specs.Descent.{descent_lines_of}
pub use Rattle.world_rules.specs.Lives.{CellLife, life_at, slice_at}
unfoldable pub use Rattle.world_rules.specs.Lives.{life_of, lives_of, slices_at}
pub use Rattle.world_rules.specs.LogText.{birth_line, death_lines, event_lines}
unfoldable pub use Rattle.world_rules.specs.LogText.{end_text, head_text, lines_of_lives, log_text, update_lines}
pub use Rattle.world_rules.specs.Prelude.{Link, OrganismState, Placing, enumerate_from, flat_map, range_with_len, scan, zip}
pub use Rattle.world_rules.specs.Settings.{placing_round_at, torus_of}
unfoldable pub use Rattle.world_rules.specs.Settings.{rates_at, settings_at}
pub use Rattle.world_rules.specs.Statistics.{scene_stats}
unfoldable pub use Rattle.world_rules.specs.Statistics.{dominant_of, stats_in, stats_of}
pub use Rattle.world_rules.specs.TinyWorlds.{fertile, scene_after_life, tiny}
pub use Rattle.world_rules.specs.Update.{Delivery, after_lives, after_what, birth_link, births_by, births_in, child_of_birth, delivery_of, lives_after, turns_of, world_of}
unfoldable pub use Rattle.world_rules.specs.Update.{after_births, after_burials, after_event, after_events, births_of, deaths_of, events_at, last_scene, next_scene, next_world, placings_of, scene_of_lives, with_newborn}
pub use Rattle.world_rules.specs.World.{Occupant, Scene, World, cells_from, founder_link, id_of, next_id}
unfoldable pub use Rattle.world_rules.specs.World.{first_world, founder_of, with_death, with_newcomer}
unfoldable pub use Rattle.world_rules.specs.WorldRun.{world_after}
