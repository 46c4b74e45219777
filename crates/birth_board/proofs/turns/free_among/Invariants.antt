use Rattle.std.proofs.Common.{◌≡◌, ◌<◌, ◌≤◌, All, length, take, filter}
use Rattle.birth_board.specs.Placement.{is_free}
use Rattle.birth_board.proofs.turns.free_among.Given as goal

abbrev pub invariant-loop-cell : goal.invariant-loop-cell
invariant-loop-cell l = record {
  free : l.free.items ≡ filter (is_free l.occupants) (take l.cell-index l.cells);
  in_torus : All (λ cell. cell < length l.occupants) l.free.items;
  few : length l.free.items ≤ l.cell-index;
}
