-- The text of cells, and of one cell more.
use Rattle.std.proofs.Common.{◌≡◌, ℕ, zero, suc, ◌+◌, ◌<◌, List, [], ◌∷◌, ◌++◌, Option, None, length, take, refl, sym, ap, ◌∙◌, arith, append_assoc, add-zero, zero-add}
use Rattle.checkpoint.proofs.Prelude.{enumerate_from, flat_map, append-nil, take-length, Occupant, ids_of, SavedState, cell_text, saved_text, slot_text, count_text, saved_head_text, taken, first_cells_text}
use Rattle.std.proofs.Math.Numerals.{add-one}
use Rattle.std.specs.Prelude.{slice_index_or}

-- the text of some first cells, counted from a number
abbrev text_from : ℕ → List (Option Occupant) → ℕ → List ℕ
text_from first cells count = flat_map cell_text (enumerate_from first (take count cells))

-- and of one cell more
more_from : (first : ℕ) (cells : List (Option Occupant)) (cell : ℕ) → cell < length cells
    → text_from first cells (suc cell)
    ≡ text_from first cells cell ++ slot_text (first + cell) (slice_index_or cells cell None)
more_from first [] cell there = absurd (omega (arith, there))
more_from first (one ∷ cells) zero there =
    append-nil (slot_text first one) ∙ ap (λ (n : ℕ). slot_text n one) (sym (add-zero first))
more_from first (one ∷ cells) (suc cell) there =
    let place : (first + 1) + cell ≡ first + suc cell = omega arith in
    rw (more_from (first + 1) cells cell (omega (arith, there)), append_assoc, place) refl

-- the text of one cell more
pub one_more : (cells : List (Option Occupant)) (cell : ℕ) → cell < length cells
    → first_cells_text cells (cell + 1)
    ≡ first_cells_text cells cell ++ slot_text cell (slice_index_or cells cell None)
one_more cells cell there =
    rw (add-one cell, more_from 0 cells cell there, zero-add cell) refl

-- the text of all cells
pub all_cells : (state : SavedState) → saved_text state
    ≡ saved_head_text state.head ++ first_cells_text state.cells (length state.cells)
    ++ count_text (taken (ids_of state.cells))
unfolding saved_text
all_cells state =
    rw (take-length state.cells) refl
