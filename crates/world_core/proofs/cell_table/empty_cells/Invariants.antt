use Rattle.std.proofs.Common.{◌≡◌, None, replicate}
use Rattle.std.specs.Prelude.{vec_len, vec_capacity}
use Rattle.world_core.proofs.cell_table.empty_cells.Given as goal

abbrev pub invariant-loop : goal.invariant-loop
invariant-loop g l = record {
  cells : l.cells.items ≡ replicate l.counter None;
  many : vec_len l.cells ≡ l.counter;
  room : vec_capacity l.cells ≡ l.count;
}
