-- A pedigree as two lists: the parents by id, and who stands in each cell.
use Rattle.std.specs.Prelude.{◌≡◌, ℕ, suc, ◌<◌, ◌≤◌, ◌*◌, List, [], ◌∷◌, length, replicate, flat_map, Option, Some, None, slice_index_or, slice_set}
use Rattle.std.specs.List.{range_with_len}
use Rattle.log_lines.specs.Line.{Line, Start, Death, Birth, Injected, Cleared, Rate, Count, End}
use Rattle.phylogeny.specs.CommonAncestor.{Dweller, Pedigree}

-- the parent of an id
abbrev pub parent_at : List (Option ℕ) → ℕ → Option ℕ
parent_at parents id = slice_index_or parents id None

-- who lives, from a cell on
abbrev pub living_from : ℕ → List (Option ℕ) → List Dweller
living_from cell [] = []
living_from cell (None ∷ slots) = living_from (suc cell) slots
living_from cell (Some id ∷ slots) =
    record { cell = cell; id = id } ∷ living_from (suc cell) slots

-- the pedigree of these lists
abbrev pub pedigree_with : List (Option ℕ) → List (Option ℕ) → Pedigree
pedigree_with parents standing = record {
  parent_of = parent_at parents;
  everyone = range_with_len 0 (length parents);
  living = living_from 0 standing;
}

-- each parent has a lower id than its child
abbrev pub HaveLowerIds : List (Option ℕ) → Type 0
HaveLowerIds parents = (id parent : ℕ) → parent_at parents id ≡ Some parent → parent < id

-- each who stands in a cell has an id below this number
abbrev pub AreBelow : ℕ → List (Option ℕ) → Type 0
AreBelow count standing =
    (cell id : ℕ) → slice_index_or standing cell None ≡ Some id → id < count

-- the lists of a pedigree
pub record IsPedigree (parents standing : List (Option ℕ)) : Type 0 where
  pub older : HaveLowerIds parents
  pub among : AreBelow (length parents) standing
  pub few : length standing ≤ 65536

-- the parent of the organism that comes by a line
abbrev pub newcomer_parent : Line → List (Option ℕ)
newcomer_parent (Start version width height cell genome) = None ∷ []
newcomer_parent (Birth id parent update cell over birth) = Some parent ∷ []
newcomer_parent (Injected id update cell over genome) = None ∷ []
newcomer_parent _ = []

-- the parents by id
abbrev pub parents_in : List Line → List (Option ℕ)
parents_in lines = flat_map newcomer_parent lines

-- who stands in each cell after a line
abbrev pub standing_on : List (Option ℕ) → Line → List (Option ℕ)
standing_on slots (Start version width height cell genome) =
    slice_set (replicate (width * height) None) cell (Some 0)
standing_on slots (Death id update cell) = slice_set slots cell None
standing_on slots (Birth id parent update cell over birth) = slice_set slots cell (Some id)
standing_on slots (Injected id update cell over genome) = slice_set slots cell (Some id)
standing_on slots (Cleared id update cell) = slice_set slots cell None
standing_on slots (Rate update name ppm) = slots
standing_on slots (Count stats) = slots
standing_on slots (End updates) = slots

-- who stands in each cell after these lines
abbrev pub standing_after : List (Option ℕ) → List Line → List (Option ℕ)
standing_after slots [] = slots
standing_after slots (line ∷ lines) = standing_after (standing_on slots line) lines
