-- One turn of the placing.
use Rattle.std.proofs.Common.{◌≡◌, ◌∙◌, sym, ap, refl, ℕ, ◌+◌, ◌*◌, ◌<◌, ◌≤◌, ◌==◌, cond, List, [], ◌∷◌, ◌++◌, length, take, get_or, Option, Some, fold, arith, append_assoc, append-nil, length-append, count_by, inl, inr}
use Rattle.std.proofs.Math.ListN.{set}
use Rattle.std.proofs.lemmas.Bool.Decides.{eqb_tells}
use Rattle.std.proofs.lemmas.List.{take_all}
use Rattle.std.proofs.lemmas.List.Sums.{fold_more}
use Rattle.birth_board.specs.declared.placing_round.PlacingRound.{PlacingRound}
use Rattle.birth_board.specs.Torus.{TorusNumbers}
use Rattle.birth_board.specs.Placement.{Board, next_board, next_placing, place_stream, placements_of, placing_of}
use Rattle.birth_board.specs.declared.placing.Placing.{Placing}
use Rattle.random_streams.specs.RandomStream.{Stream, word_of}

-- the board once some parents had their newborns placed
abbrev pub board_after : TorusNumbers → PlacingRound → List (Option ℕ) → List ℕ → Board
board_after torus round occupants parents =
    fold (next_board torus round) (record { occupants = occupants; placings = []; parents = [] })
    parents

-- a board tells whose newborns were placed
pub board-parents : (torus : TorusNumbers) (round : PlacingRound) (board : Board) (parents : List ℕ)
    → (fold (next_board torus round) board parents).parents ≡ board.parents ++ parents
unfolding next_board
board-parents torus round board [] = sym (append-nil board.parents)
board-parents torus round board (parent ∷ parents) =
    board-parents torus round (next_board torus round board parent) parents
    ∙ append_assoc board.parents (parent ∷ []) parents

-- how many words the stream of a cell gave, where cells come in order
pub words-taken : (current cell taken : ℕ) (before : List ℕ) → current ≤ cell
    → taken ≡ 4 * count_by (λ p. p == current) before
    → ((q : ℕ) → current < q → count_by (λ p. p == q) before ≡ 0)
    → cond (current == cell) taken 0 ≡ 4 * count_by (λ p. p == cell) before
words-taken current cell taken before order same later =
    elim (eqb_tells current cell) [
      | inl h ↦ rw h.0 (same ∙ ap (λ q. 4 * count_by (λ p. p == q) before) h.1)
      | inr h ↦ rw h.0 (sym (ap (λ n. 4 * n) (later cell (omega (arith, h.1)))))
    ]

-- what a turn places is the next placing
pub placing-next : (torus : TorusNumbers) (round : PlacingRound) (board : Board) (parent : ℕ)
    (before : List ℕ) (occupants : List (Option ℕ)) (id : ℕ) (draws : Stream) (placing : Placing)
    → board.parents ≡ before → occupants ≡ board.occupants → id ≡ round.next_id + length before
    → draws ≡ place_stream round parent (4 * count_by (λ p. p == parent) before)
    → placing ≡ placing_of torus round.prefer_empty occupants id parent
    (word_of draws draws.taken ∷ word_of draws (draws.taken + 1) ∷ word_of draws (draws.taken + 2)
    ∷ word_of draws (draws.taken + 3) ∷ []) → placing ≡ next_placing torus round board parent
placing-next torus round board parent before occupants id draws placing same who id_is stream
    placed =
    placed ∙ rw (stream, who, id_is, same) refl

-- who stands where after a turn, and the placings
pub next_board-is : (torus : TorusNumbers) (round : PlacingRound) (board : Board) (parent : ℕ)
    (occupants new : List (Option ℕ)) (placings more : List Placing) (placing : Placing)
    → occupants ≡ board.occupants → placings ≡ board.placings
    → placing ≡ next_placing torus round board parent
    → new ≡ set occupants placing.cell (Some placing.id) → more ≡ placings ++ placing ∷ []
    → (new ≡ (next_board torus round board parent).occupants)
    × (more ≡ (next_board torus round board parent).placings)
unfolding next_board
next_board-is torus round board parent occupants new placings more placing who so_far placed stands
    told =
    (stands ∙ rw (who, placed) refl, told ∙ rw (so_far, placed) refl)

-- the board after one parent more
pub board_after-more : (torus : TorusNumbers) (round : PlacingRound) (occupants : List (Option ℕ))
    (parents : List ℕ) (i : ℕ) → i < length parents
    → board_after torus round occupants (take (i + 1) parents)
    ≡ next_board torus round (board_after torus round occupants (take i parents))
    (get_or parents i 0)
board_after-more torus round occupants parents i within =
    fold_more (next_board torus round)
    (record { occupants = occupants; placings = []; parents = [] }) parents i 0 within

-- the board after all parents
pub board_after-all : (torus : TorusNumbers) (round : PlacingRound) (occupants : List (Option ℕ))
    (parents : List ℕ) (i : ℕ) → length parents ≤ i
    → board_after torus round occupants (take i parents)
    ≡ placements_of torus parents occupants round
unfolding placements_of
board_after-all torus round occupants parents i all =
    ap (board_after torus round occupants) (take_all i parents all)

-- for each parent there is one placing more
placed_number : (torus : TorusNumbers) (round : PlacingRound) (board : Board) (parents : List ℕ)
    → length (fold (next_board torus round) board parents).placings
    ≡ length board.placings + length parents
unfolding next_board
placed_number torus round board [] = omega arith
placed_number torus round board (parent ∷ parents) =
    omega (
      arith,
      placed_number torus round (next_board torus round board parent) parents,
      length-append board.placings (next_placing torus round board parent ∷ []),
    )

-- there are as many placings as parents
pub placements_number : (torus : TorusNumbers) (parents : List ℕ) (occupants : List (Option ℕ))
    (round : PlacingRound) → length (placements_of torus parents occupants round).placings
    ≡ length parents
unfolding placements_of
placements_number torus parents occupants round =
    let empty : Board = record { occupants = occupants; placings = []; parents = [] } in
    omega (arith, placed_number torus round empty parents)
