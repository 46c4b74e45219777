-- Newborns are placed in cells of the torus, one placing each.
use Rattle.std.proofs.Common.{ℕ, zero, suc, ◌+◌, ◌*◌, ◌/◌, ◌<◌, ◌≤◌, Bool, true, false, cond, List, [], ◌∷◌, Option, arith}
use Rattle.std.specs.Prelude.{◌==◌, count_by, slice_index_or, filter, fold, ◌%◌}
use Rattle.world_laws.proofs.Prelude.{AllByRecursion, mul-le-mul_left, div-lt_iff_lt-mul, HasTopBytes, inputs_of-top, Placing, all_append, all_filtered}
use Rattle.birth_board.specs.declared.placing_round.PlacingRound.{PlacingRound}
use Rattle.birth_board.specs.Torus.{TorusNumbers, cells_of, west_of, east_of, north_of, south_of, around, neighbours_of}
use Rattle.birth_board.specs.Placement.{Board, is_free, choices_of, chosen_cell, placing_words, placing_of, next_placing, next_board, placements_of}

-- in the torus
abbrev pub IsCell : TorusNumbers → ℕ → Type 0
IsCell torus cell = cell < cells_of torus

-- a column and a row make a cell
in_row : (width height column row : ℕ) → column < width → row < height
    → row * width + column < width * height
in_row width height column row c r =
    let next : row + 1 ≤ height = omega (arith, r) in
    omega (arith, mul-le-mul_left width next, c)

-- a cell's row
row_in : (width height cell : ℕ) → 1 ≤ width → cell < width * height → cell / width < height
row_in width height cell some h =
    (div-lt_iff_lt-mul {k = width} {x = cell} {y = height} (omega (arith, some))).1
    (omega (arith, h))

-- a torus with a cell has a column
wide : (width height cell : ℕ) → cell < width * height → 1 ≤ width
wide zero height cell h = omega (arith, h)
wide (suc width) height cell h = omega arith

-- and a row
tall : (width height cell : ℕ) → cell < width * height → 1 ≤ height
tall width zero cell h = omega (arith, h)
tall width (suc height) cell h = omega arith

-- all cells around a column and a row lie in the torus
around_in : (torus : TorusNumbers) (column row : ℕ) → 1 ≤ torus.width → 1 ≤ torus.height
    → column < torus.width → row < torus.height
    → AllByRecursion (IsCell torus) (around torus column row)
around_in torus column row some rows c r =
    let west : west_of torus column < torus.width = omega (arith, some) in
    let east : east_of torus column < torus.width = omega (arith, some) in
    let north : north_of torus row < torus.height = omega (arith, rows) in
    let south : south_of torus row < torus.height = omega (arith, rows) in
    let at = in_row torus.width torus.height in (
      at _ _ west north,
      (
        at _ _ c north,
        (
          at _ _ east north,
          (
            at _ _ west r,
            (at _ _ east r, (at _ _ west south, (at _ _ c south, (at _ _ east south, tt)))),
          ),
        ),
      ),
    )

-- all neighbours of a cell of the torus lie in it
neighbours_in : (torus : TorusNumbers) (cell : ℕ) → IsCell torus cell
    → AllByRecursion (IsCell torus) (neighbours_of torus cell)
unfolding neighbours_of
neighbours_in torus cell h =
    let some = wide torus.width torus.height cell h in
    let rows = tall torus.width torus.height cell h in
    let column : cell % torus.width < torus.width = omega (arith, some) in
    around_in torus (cell % torus.width) (cell / torus.width) some rows column
    (row_in torus.width torus.height cell some h)

-- what holds of all of two lists holds of all of whichever is taken
all_or : {X : Type 0} (P : X → Type 0) (b : Bool) (xs ys : List X) → AllByRecursion P xs
    → AllByRecursion P ys → AllByRecursion P (cond b xs ys)
all_or P true xs ys h k = h
all_or P false xs ys h k = k

-- an entry of a list, or the default
all_at : (P : ℕ → Type 0) (xs : List ℕ) (i d : ℕ) → P d → AllByRecursion P xs
    → P (slice_index_or xs i d)
all_at P [] i d h all = h
all_at P (x ∷ xs) zero d h all = all.0
all_at P (x ∷ xs) (suc i) d h all = all_at P xs i d h all.1

-- a chosen cell lies in the torus
chosen_in : (torus : TorusNumbers) (prefer : Bool) (occupants : List (Option ℕ)) (parent word : ℕ)
    → IsCell torus parent → IsCell torus (chosen_cell torus prefer occupants parent word)
unfolding chosen_cell
chosen_in torus prefer occupants parent word h =
    let near = neighbours_in torus parent h in
    let free = all_filtered (IsCell torus) (is_free occupants) (neighbours_of torus parent) near in
    let first : IsCell torus 0 = omega (arith, h) in
    all_at (IsCell torus) (choices_of torus prefer occupants parent) _ 0 first
    (all_or (IsCell torus) _ (filter (is_free occupants) (neighbours_of torus parent))
    (neighbours_of torus parent) free near)

-- in the torus, as a placing
abbrev pub PlacedIn : TorusNumbers → Placing → Type 0
PlacedIn torus placing = IsCell torus placing.cell

-- the placings of a board once the newborns of these parents are placed
placed_in : (torus : TorusNumbers) (round : PlacingRound) (board : Board) (parents : List ℕ)
    → AllByRecursion (IsCell torus) parents → AllByRecursion (PlacedIn torus) board.placings
    → AllByRecursion (PlacedIn torus) (fold (next_board torus round) board parents).placings
unfolding next_board placing_of
placed_in torus round board [] cells before = before
placed_in torus round board (parent ∷ parents) cells before =
    placed_in torus round (next_board torus round board parent) parents cells.1
    (all_append (PlacedIn torus) board.placings (next_placing torus round board parent ∷ []) before
    (chosen_in torus round.prefer_empty board.occupants parent _ cells.0, tt))

-- all newborns whose parents are in the torus are placed in it
pub placements_in : (torus : TorusNumbers) (parents : List ℕ) (occupants : List (Option ℕ))
    (round : PlacingRound) → AllByRecursion (IsCell torus) parents
    → AllByRecursion (PlacedIn torus) (placements_of torus parents occupants round).placings
unfolding placements_of
placements_in torus parents occupants round cells =
    placed_in torus round (record { occupants = occupants; placings = []; parents = [] }) parents
    cells tt

-- the inputs of a newborn have the top bytes
abbrev pub IsEquipped : Placing → Type 0
IsEquipped placing = HasTopBytes placing.inputs

-- where those of all of a board's placings do, so do they once more newborns are placed
placed_equipped : (torus : TorusNumbers) (round : PlacingRound) (board : Board) (parents : List ℕ)
    → AllByRecursion IsEquipped board.placings
    → AllByRecursion IsEquipped (fold (next_board torus round) board parents).placings
unfolding next_board placing_of
placed_equipped torus round board [] before = before
placed_equipped torus round board (parent ∷ parents) before =
    let words = placing_words round parent (count_by (λ cell. cell == parent) board.parents) in
    let top = inputs_of-top
    (slice_index_or words 1 0 ∷ slice_index_or words 2 0 ∷ slice_index_or words 3 0 ∷ []) in
    placed_equipped torus round (next_board torus round board parent) parents
    (all_append IsEquipped board.placings (next_placing torus round board parent ∷ []) before
    (top, tt))

-- the inputs of all newborns that are placed have the top bytes
pub placements_equipped : (torus : TorusNumbers) (parents : List ℕ) (occupants : List (Option ℕ))
    (round : PlacingRound)
    → AllByRecursion IsEquipped (placements_of torus parents occupants round).placings
unfolding placements_of
placements_equipped torus parents occupants round =
    placed_equipped torus round (record { occupants = occupants; placings = []; parents = [] })
    parents tt
