-- The words of other crates that this one cites most often, passed on from one place.
pub use Rattle.divide_rules.specs.Rules.{AreRules}
pub use Rattle.lineage_log.specs.Ancestry.{Link}
pub use Rattle.log_lines.specs.Line.{Birth, Injected, Line}
pub use Rattle.organism.specs.Lived.{HasLived, IsSoundOrganism, beginning}
pub use Rattle.organism.specs.OrganismState.{OrganismState, new_organism}
pub use Rattle.organism.specs.SettingNumbers.{SettingNumbers}
pub use Rattle.organism.specs.UpdateLife.{LifeState, life}
pub use Rattle.random_streams.specs.RandomStream.{draw}
pub use Rattle.std.specs.List.{AllByRecursion}
unfoldable pub use Rattle.std.specs.List.{IsDistinct}
pub use Rattle.world_config.specs.Values.{ConfigValues}
pub use Rattle.world_rules.specs.Descent.{AreNumbered, IsNumberedWorld, descent_line_of, descent_lines_of, line_in, line_of_parent}
pub use Rattle.world_rules.specs.World.{Occupant, Scene, World}
pub use Rattle.world_rules.specs.WorldRun.{world_after}
