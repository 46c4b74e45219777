-- The words of other crates that this one cites most often, passed on from one place.
pub use Rattle.birth_board.specs.declared.placing.Placing.{Placing}
pub use Rattle.census.specs.Counts.{GenotypeCount, dominant_among}
pub use Rattle.instruction_set.specs.declared.letter.Letter.{Letter}
pub use Rattle.instruction_set.specs.declared.letter.Letter.TheVariants.{NopA, NopB}
pub use Rattle.lineage_log.specs.Ancestry.{Link}
pub use Rattle.lineage_log.specs.Replay.{Resident, replay_of}
pub use Rattle.log_lines.specs.Line.{Birth, Cleared, Count, Death, End, Injected, Line, Rate, Start}
pub use Rattle.log_lines.specs.LineText.{line_text, words_text}
pub use Rattle.logic_tasks.specs.LogicTasks.{all_tasks, has_task, no_tasks}
pub use Rattle.mutations.specs.declared.rate_name.RateName.TheVariants.{Copy, Delete, Insert, SiteDelete, SiteInsert, SitePoint}
pub use Rattle.organism.specs.Newborns.{NewbornValue}
pub use Rattle.organism.specs.OrganismState.{OrganismState, new_organism}
pub use Rattle.random_streams.specs.RandomStream.{draw}
pub use Rattle.random_streams.specs.declared.purpose.Purpose.TheVariants.{Place, Run}
pub use Rattle.std.specs.List.{count_by, enumerate_from, filter_map, flat_map, range_with_len, scan, sum_by, zip}
pub use Rattle.world_config.specs.Events.{EventValue, WhatValue, clear, inject, rate}
pub use Rattle.world_config.specs.Values.{ConfigValues}
