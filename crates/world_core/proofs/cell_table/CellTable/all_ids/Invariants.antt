use Rattle.std.proofs.Common.{◌≡◌, map, take}
use Rattle.std.specs.Prelude.{vec_len, vec_capacity}
use Rattle.world_core.proofs.Prelude.{id_of}
use Rattle.world_core.proofs.cell_table.CellTable.all_ids.Given as goal

-- the ids of the cells so far
abbrev pub invariant-loop-cell : goal.invariant-loop-cell
invariant-loop-cell l = record {
  ids : l.ids.items ≡ map id_of (take l.cell l.self);
  count : vec_len l.ids ≡ l.cell;
  room : vec_capacity l.ids ≡ l.count;
}
