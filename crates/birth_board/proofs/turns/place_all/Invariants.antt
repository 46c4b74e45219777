use Rattle.std.proofs.Common.{◌≡◌, ℕ, ◌+◌, ◌*◌, ◌<◌, ◌≤◌, ◌==◌, length, take, count_by, slice_index_or, vec_capacity, All}
use Rattle.birth_board.specs.Torus.{torus_numbers, cells_of}
use Rattle.birth_board.specs.Placement.{place_stream}
use Rattle.birth_board.proofs.PlacementLemmas.{board_after}
use Rattle.birth_board.proofs.turns.place_all.Given as goal

-- the newborns so far are placed, and the stream stands behind the last one's words
abbrev pub invariant-loop-parent : goal.invariant-loop-parent
invariant-loop-parent l = record {
  stream : l.turn.draws ≡ place_stream l.round l.turn.cell
      (4 * count_by (λ p. p == l.turn.cell) (take l.parent-index l.parents));
  later : (q : ℕ) → l.turn.cell < q → count_by (λ p. p == q) (take l.parent-index l.parents) ≡ 0;
  order : (k : ℕ) → l.parent-index ≤ k → k < length l.parents
      → l.turn.cell ≤ slice_index_or l.parents k 0;
  id : l.id ≡ l.round.next_id + l.parent-index;
  occupants : l.occupants ≡ (board_after (torus_numbers l.torus) l.round l.fn.occupants
      (take l.parent-index l.parents)).occupants;
  placings : l.placings.items
      ≡ (board_after (torus_numbers l.torus) l.round l.fn.occupants
      (take l.parent-index l.parents)).placings;
  count : length l.placings.items ≡ l.parent-index;
  room : length l.parents ≤ vec_capacity l.placings;
  cells : length l.occupants ≡ cells_of (torus_numbers l.torus);
  in_torus : All (λ placing. placing.cell < cells_of (torus_numbers l.torus)) l.placings.items;
}
