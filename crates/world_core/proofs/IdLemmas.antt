-- Who stands in a cell, by the cell's id.
use Rattle.std.proofs.Common.{◌≡◌, ℕ, ◌<◌, Option, None, Some, List, length, get_or}
use Rattle.std.specs.Prelude.{slice_get}
use Rattle.world_core.proofs.Prelude.{slice_get-get_or, Occupant, id_of, id_at, IsStanding}

-- the id of a cell is that of an organism that stands in it
pub stands_by_id : (cells : List (Option Occupant)) (cell id : ℕ) → cell < length cells
    → Some id ≡ id_at cells cell → IsStanding cells id
stands_by_id cells cell id within is =
    found (get_or cells cell None) (slice_get-get_or cells cell None within) is
  where
    found : (slot : Option Occupant) → slice_get cells cell ≡ Some slot → Some id ≡ id_of slot
        → IsStanding cells id
    found None e f = absurd cc
    found (Some o) e f = (cell, o, e, cc)
