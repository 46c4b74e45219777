-- What the proofs of this crate cite from outside most often, passed on from one place.
pub use Rattle.atomic_table.specs.Table.{Act, Allows, Me, Splits, State, Valid, carried_after, keeps, opening, rest, step, stepped, takes}
pub use Rattle.cell_shards.specs.CellLives.{IsYoung, Part, RoundNumbers, births_from, born_in, dead_in, deaths_from, left_in, newborns_in, organism_once_made, part_from, round_numbers, shard_life_at, shard_life_of, standing_in}
unfoldable pub use Rattle.cell_shards.specs.CellLives.{shard_lives_of}
pub use Rattle.cell_shards.specs.Finishing.{AreFinished, HasInterned, HasRun, IsFinished, IsNumbered, IsToldBehind, birth_of, call_for, genome_in, part_of}
pub use Rattle.cell_shards.specs.Shards.{HasAsked, IsInShard, IsPool, first_cell}
pub use Rattle.cell_shards.specs.declared.finished.Finished.{Finished}
pub use Rattle.cell_shards.specs.declared.job.Job.{Job}
pub use Rattle.cell_shards.specs.declared.lives.Left.{Left}
pub use Rattle.genotype_bank.specs.BankHistory.{MakesCall, SeatValue, entry, genotypes_of, own_calls_of}
pub use Rattle.organism.specs.Lived.{OrganismLife, beginning, ended_life}
unfoldable pub use Rattle.organism.specs.Lived.{life_by}
pub use Rattle.organism.specs.Newborns.{NewbornValue, newborn_value}
pub use Rattle.organism.specs.OrganismState.{OrganismState}
pub use Rattle.organism.specs.UpdateLife.{LifeState, is_death, life, life_state}
pub use Rattle.random_streams.specs.RandomStream.{draw, word_of}
pub use Rattle.std.proofs.lemmas.Bool.{cases_lt}
pub use Rattle.std.proofs.lemmas.List.{append-nil, drop_all, drop_more, get_or-append_right, get_or-set_other, get_or-set_same, get_or_append_left, get_or_at, get_or_default, length-map, length-replicate, length-set, map-append, nil_from_length, set_at}
pub use Rattle.std.proofs.lemmas.List.Elements.{All-append, All-head, All-nil, All-push, All-same, All-tail, All-weaker}
pub use Rattle.std.proofs.lemmas.List.FromFn.{length-map-range_with_len, map-range_with_len_more}
pub use Rattle.std.proofs.lemmas.Option.{none-some, same_Some, slice_get-get_or, slice_get_within}
pub use Rattle.std.proofs.lemmas.Result.{IfOk-at_ok, on_ok_weaker}
pub use Rattle.std.specs.List.{enumerate_from, flat_map, range_with_len}
pub use Rattle.std.specs.Vec.Iter.{into_iter_items}
