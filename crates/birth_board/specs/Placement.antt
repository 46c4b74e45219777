-- The placing of newborns, one after another (docs/WORLD.md, "Placing births").
use Rattle.std.specs.Prelude.{ℕ, List, length, replicate, flat_map, slice_index_or, ◌≡◌, ◌+◌, ◌*◌, ◌<◌, ◌^◌, All, Bool, ◌==◌, ◌&&◌, nat_lt, if◌then◌else◌, [], ◌∷◌, ◌++◌, Option, None, Some, is_none, filter, count_by, fold, slice_set}
use Rattle.std.specs.List.{range_with_len}
use Rattle.std.specs.List.Sorted.{IsNonDecreasing}
use Rattle.logic_tasks.specs.Inputs.{inputs_of}
use Rattle.random_streams.specs.declared.purpose.Purpose.TheVariants.{Place}
use Rattle.random_streams.specs.RandomStream.{Stream, draw, scaled, first_of}
use Rattle.birth_board.specs.declared.placing_round.PlacingRound.{PlacingRound}
use Rattle.birth_board.specs.declared.placing.Placing.{Placing}
use Rattle.birth_board.specs.Torus.{TorusNumbers, cells_of, neighbours_of}

-- each cell as often as it is counted, in the order of the cells
unfoldable pub parents_of : List ℕ → List ℕ
parents_of counts =
    flat_map (λ cell. replicate (slice_index_or counts cell 0) cell)
    (range_with_len 0 (length counts))

-- nothing stands in the cell
abbrev pub is_free : List (Option ℕ) → ℕ → Bool
is_free occupants cell = is_none (slice_index_or occupants cell None)

-- the cells to choose from: empty neighbours, if preferred and there are any, else all eight
abbrev pub choices_of : TorusNumbers → Bool → List (Option ℕ) → ℕ → List ℕ
choices_of torus prefer_empty occupants parent =
    let free = filter (is_free occupants) (neighbours_of torus parent) in
    if prefer_empty && nat_lt 0 (length free) then free else neighbours_of torus parent

-- the entry of a list that a word chooses
abbrev pub chosen_from : List ℕ → ℕ → ℕ
chosen_from cells word = slice_index_or cells (scaled word (length cells)) 0

-- the cell that a word chooses for a newborn
unfoldable pub chosen_cell : TorusNumbers → Bool → List (Option ℕ) → ℕ → ℕ → ℕ
chosen_cell torus prefer_empty occupants parent word =
    chosen_from (choices_of torus prefer_empty occupants parent) word

-- the stream of a cell's newborns, of which so many words were taken
abbrev pub place_stream : PlacingRound → ℕ → ℕ → Stream
place_stream round cell taken =
    record (first_of round.seed round.update cell Place) { taken = taken }

-- the four words of newborn `nth` of a cell, from 0
abbrev pub placing_words : PlacingRound → ℕ → ℕ → List ℕ
placing_words round cell nth =
    draw round.seed round.update cell Place (4 * nth)
    ∷ draw round.seed round.update cell Place (4 * nth + 1)
    ∷ draw round.seed round.update cell Place (4 * nth + 2)
    ∷ draw round.seed round.update cell Place (4 * nth + 3)
    ∷ []

-- the first word chooses the cell, the others make the inputs
unfoldable pub placing_of : TorusNumbers → Bool → List (Option ℕ) → ℕ → ℕ → List ℕ → Placing
placing_of torus prefer_empty occupants id parent words =
    let cell = chosen_cell torus prefer_empty occupants parent (slice_index_or words 0 0) in
    record {
      id = id;
      cell = cell;
      over = slice_index_or occupants cell None;
      inputs = inputs_of
          (slice_index_or words 1 0 ∷ slice_index_or words 2 0 ∷ slice_index_or words 3 0 ∷ []);
    }

-- who stands where, the newborns that were placed, and the cells of their parents
pub record Board : Type 0 where
  pub occupants : List (Option ℕ)
  pub placings : List Placing
  pub parents : List ℕ

-- the placing of the next newborn, of a parent in this cell
abbrev pub next_placing : TorusNumbers → PlacingRound → Board → ℕ → Placing
next_placing torus round board parent =
    let nth = count_by (λ cell. cell == parent) board.parents in
    placing_of torus round.prefer_empty board.occupants (round.next_id + length board.parents)
    parent (placing_words round parent nth)

-- the board once that newborn is placed
unfoldable pub next_board : TorusNumbers → PlacingRound → Board → ℕ → Board
next_board torus round board parent =
    let placing = next_placing torus round board parent in
    record {
      occupants = slice_set board.occupants placing.cell (Some placing.id);
      placings = board.placings ++ placing ∷ [];
      parents = board.parents ++ parent ∷ [];
    }

-- the board once the newborns of these parents are placed, one after another
unfoldable pub placements_of : TorusNumbers → List ℕ → List (Option ℕ) → PlacingRound → Board
placements_of torus parents occupants round =
    fold (next_board torus round) (record { occupants = occupants; placings = []; parents = [] })
    parents

-- what a placing needs: a slot a cell, parents in the torus in order of cells, ids that fit 63 bits
pub record CanPlace (torus : TorusNumbers) (parents : List ℕ) (occupants : List (Option ℕ))
    (round : PlacingRound) : Type 0 where
  pub cells : length occupants ≡ cells_of torus
  pub in_torus : All (λ cell. cell < cells_of torus) parents
  pub rising : IsNonDecreasing parents
  pub few : length parents < 2 ^ 32
  pub ids : round.next_id + length parents < 2 ^ 63

-- what a placing leaves: the definition's placings, one a parent, each in the torus
pub record ArePlaced (torus : TorusNumbers) (parents : List ℕ) (standing : List (Option ℕ))
    (round : PlacingRound) (placed : List Placing) : Type 0 where
  pub placings : placed ≡ (placements_of torus parents standing round).placings
  pub count : length placed ≡ length parents
  pub in_torus : All (λ placing. placing.cell < cells_of torus) placed

-- and the definition's occupants, a slot for each cell
pub record AreSettled (torus : TorusNumbers) (parents : List ℕ) (standing : List (Option ℕ))
    (round : PlacingRound) (settled : List (Option ℕ)) : Type 0 where
  pub occupants : settled ≡ (placements_of torus parents standing round).occupants
  pub cells : length settled ≡ cells_of torus
