-- Where newborns are placed in a world of one cell, whatever the words are.
use Rattle.std.proofs.Common.{◌≡◌, ℕ, zero, suc, ◌+◌, true, List, [], ◌∷◌, ◌++◌, length, replicate, Option, Some, None, refl, ap, ◌∙◌}
use Rattle.std.specs.Prelude.{◌==◌, count_by, slice_index_or, slice_set}
use Rattle.world_rules.proofs.Prelude.{Placing, Board, chosen_cell, placing_of, placing_words, next_board, placements_of, torus_of, placing_round_at, tiny}
use Rattle.logic_tasks.specs.Inputs.{inputs_of}
use Rattle.random_streams.specs.RandomStream.{scaled}
use Rattle.birth_board.specs.declared.placing_round.PlacingRound.{PlacingRound}
use Rattle.birth_board.specs.Torus.{TorusNumbers, neighbours_of}

-- eight zeros: the one cell, as each of its neighbours
abbrev zeros : List ℕ
zeros = replicate 8 0

-- each of eight zeros is 0, and so is the default beyond them
zero_at : (k : ℕ) → slice_index_or zeros k 0 ≡ 0
zero_at zero = refl
zero_at (suc zero) = refl
zero_at (suc (suc zero)) = refl
zero_at (suc (suc (suc zero))) = refl
zero_at (suc (suc (suc (suc zero)))) = refl
zero_at (suc (suc (suc (suc (suc zero))))) = refl
zero_at (suc (suc (suc (suc (suc (suc zero)))))) = refl
zero_at (suc (suc (suc (suc (suc (suc (suc zero))))))) = refl
zero_at (suc (suc (suc (suc (suc (suc (suc (suc k)))))))) = refl

-- the torus of one cell
abbrev torus : TorusNumbers
torus = torus_of (tiny [])

-- the season of its update 1
abbrev round : PlacingRound
round = placing_round_at (tiny []) 1 1

-- the one cell is chosen, be it empty or not
chosen : (slot : Option ℕ) (word : ℕ) → chosen_cell torus true (slot ∷ []) 0 word ≡ 0
unfolding chosen_cell neighbours_of
chosen None word = zero_at (scaled word 8)
chosen (Some id) word = zero_at (scaled word 8)

-- a placing in this cell
abbrev pub placed : ℕ → List (Option ℕ) → ℕ → List ℕ → Placing
placed cell occupants id words =
    record {
      id = id;
      cell = cell;
      over = slice_index_or occupants cell None;
      inputs =
          inputs_of (slice_index_or words 1 0 ∷ slice_index_or words 2 0 ∷ slice_index_or words 3 0
          ∷ []);
    }

-- the board with this placing, of a newborn of cell 0
abbrev with_placing : Board → Placing → Board
with_placing board placing =
    record {
      occupants = slice_set board.occupants placing.cell (Some placing.id);
      placings = board.placings ++ placing ∷ [];
      parents = board.parents ++ 0 ∷ [];
    }

-- the words of the next newborn
abbrev words_at : List ℕ → List ℕ
words_at parents = placing_words round 0 (count_by (λ cell. cell == 0) parents)

-- the next newborn is placed in the one cell, whoever stands there
turn : (slot : Option ℕ) (placings : List Placing) (parents : List ℕ)
    → next_board torus round
    (record { occupants = slot ∷ []; placings = placings; parents = parents }) 0
    ≡ with_placing (record { occupants = slot ∷ []; placings = placings; parents = parents })
    (placed 0 (slot ∷ []) (1 + length parents) (words_at parents))
unfolding next_board placing_of
turn slot placings parents =
    let board : Board = record { occupants = slot ∷ []; placings = placings; parents = parents } in
    ap (λ cell. with_placing board
    (placed cell (slot ∷ []) (1 + length parents) (words_at parents)))
    (chosen slot (slice_index_or (words_at parents) 0 0))

-- the placings of two newborns of its organism, which died
abbrev pub two_placings : List Placing
two_placings =
    placed 0 (None ∷ []) 1 (words_at []) ∷ placed 0 (Some 1 ∷ []) 2 (words_at (0 ∷ [])) ∷ []

-- these are the placings of two newborns of the one cell, once it is empty
pub two_placed : (placements_of torus (0 ∷ 0 ∷ []) (None ∷ []) round).placings ≡ two_placings
unfolding placements_of
two_placed =
    let first : Placing = placed 0 (None ∷ []) 1 (words_at []) in
    ap (λ board. (next_board torus round board 0).placings) (turn None [] [])
    ∙ ap (λ (board : Board). board.placings) (turn (Some 1) (first ∷ []) (0 ∷ []))
