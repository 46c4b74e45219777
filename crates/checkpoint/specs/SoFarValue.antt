-- What the lines of a saved world have told, as contracts see it.
use Rattle.std.specs.Prelude.{◌≡◌, ℕ, List, map, not, nat_le}
use Rattle.checkpoint.specs.Prelude.{Placed, is_above, is_new, HeadValues, head_values, AreSaved, placed_in}
use Rattle.std.specs.Ordering.{nat_cmp}
use Rattle.std.specs.BTreeSet.{BTreeSet, contains}
use Rattle.saved_lines.specs.declared.resident.Resident.{Resident}
use Rattle.saved_lines.specs.declared.state_head.StateHead.{StateHead}

-- the values of the first line, and the organisms in their order
pub record SoFarValue : Type 0 where
  pub head : HeadValues
  pub placed : List Placed

-- residents under a head
abbrev pub so_far_of : StateHead → List Resident → SoFarValue
so_far_of head residents = record {
  head = head_values head;
  placed = map (placed_in (head_values head)) residents;
}

-- a saved world can be made of them, and what is kept of their cells and ids tells which may come
pub record IsKept (so_far : SoFarValue) (next_cell : ℕ) (ids : BTreeSet ℕ) : Type 0 where
  pub saved : AreSaved so_far.head so_far.placed
  pub above : (cell : ℕ) → is_above cell so_far.placed ≡ nat_le next_cell cell
  pub fresh : (id : ℕ) → is_new id so_far.placed ≡ not (contains nat_cmp ids id)
