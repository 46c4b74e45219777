-- Lines of descent (docs/WORLD.md, "Lines of descent"). For example, if the founder 0 bore 3, and 3
-- bore 7, the line of 7 is the links of 0, 3 and 7.
use Rattle.std.specs.Prelude.{◌≡◌, ℕ, ◌<◌, All, List, [], ◌∷◌, ◌++◌, length, Option, None, Some, fold, option_map, slice_get, slice_index_or}
use Rattle.world_rules.specs.Prelude.{Link}
use Rattle.world_rules.specs.World.{World, id_of, id_at}

-- the line of a parent, by id; a founder has none
abbrev pub line_of_parent : List (List Link) → Option ℕ → List Link
line_of_parent lines None = []
line_of_parent lines (Some parent) = slice_index_or lines parent []

-- one organism more: its line is that of its parent, and itself
abbrev pub with_descent_line : List (List Link) → Link → List (List Link)
with_descent_line lines link = lines ++ (line_of_parent lines link.parent ++ link ∷ []) ∷ []

-- the line of each organism, by id, its founder first
unfoldable pub descent_lines_of : List Link → List (List Link)
descent_lines_of everyone = fold with_descent_line [] everyone

-- the line of the organism with this id
abbrev pub descent_line_of : List Link → ℕ → List Link
descent_line_of everyone id = slice_index_or (descent_lines_of everyone) id []

-- the line of who stands in a cell
unfoldable pub line_in : World → ℕ → Option (List Link)
line_in w cell = option_map (descent_line_of w.everyone) (id_at w.cells cell)

-- this id, if there is one, is below a number
abbrev pub IsBelow : ℕ → Option ℕ → Type 0
IsBelow bound None = Unit {0}
IsBelow bound (Some id) = id < bound

-- an organism has its place as its id, and its parent came before it
pub record HasPlaceAsId (place : ℕ) (link : Link) : Type 0 where
  pub id : link.id ≡ place
  pub parent : IsBelow place link.parent

-- so has each of these
abbrev pub AreNumbered : List Link → Type 0
AreNumbered everyone =
    (place : ℕ) (link : Link) → slice_get everyone place ≡ Some link → HasPlaceAsId place link

-- organisms have their places as ids, parents come before children, and the living are among them
pub record IsNumberedWorld (w : World) : Type 0 where
  pub everyone : AreNumbered w.everyone
  pub standing : All (λ slot. IsBelow (length w.everyone) (id_of slot)) w.cells
