-- The torus and the neighbours of a cell (docs/WORLD.md, "Placing births").
use Rattle.std.specs.Prelude.{ℕ, ◌+◌, ◌-◌, ◌*◌, ◌/◌, ◌%◌, List, [], ◌∷◌}
use Rattle.birth_board.specs.declared.torus.Torus.{Torus}

-- a torus as numbers: how many columns and rows it has
pub record TorusNumbers : Type 0 where
  pub width : ℕ
  pub height : ℕ

-- the numbers of a torus
abbrev pub torus_numbers : Torus → TorusNumbers
torus_numbers torus = record { width = torus.width; height = torus.height }

-- the number of cells
abbrev pub cells_of : TorusNumbers → ℕ
cells_of torus = torus.width * torus.height

-- the cell of a column and a row
abbrev pub cell_at : TorusNumbers → ℕ → ℕ → ℕ
cell_at torus column row = row * torus.width + column

-- the column to the west; the first meets the last
abbrev pub west_of : TorusNumbers → ℕ → ℕ
west_of torus column = (column + (torus.width - 1)) % torus.width

-- the column to the east; the last meets the first
abbrev pub east_of : TorusNumbers → ℕ → ℕ
east_of torus column = (column + 1) % torus.width

-- the row above; the first meets the last
abbrev pub north_of : TorusNumbers → ℕ → ℕ
north_of torus row = (row + (torus.height - 1)) % torus.height

-- the row below; the last meets the first
abbrev pub south_of : TorusNumbers → ℕ → ℕ
south_of torus row = (row + 1) % torus.height

-- the cells around that of a column and a row: NW, N, NE, W, E, SW, S, SE
abbrev pub around : TorusNumbers → ℕ → ℕ → List ℕ
around torus column row =
    cell_at torus (west_of torus column) (north_of torus row)
    ∷ cell_at torus column (north_of torus row)
    ∷ cell_at torus (east_of torus column) (north_of torus row)
    ∷ cell_at torus (west_of torus column) row
    ∷ cell_at torus (east_of torus column) row
    ∷ cell_at torus (west_of torus column) (south_of torus row)
    ∷ cell_at torus column (south_of torus row)
    ∷ cell_at torus (east_of torus column) (south_of torus row)
    ∷ []

-- the eight neighbours of a cell, with repeats
unfoldable pub neighbours_of : TorusNumbers → ℕ → List ℕ
neighbours_of torus cell = around torus (cell % torus.width) (cell / torus.width)
