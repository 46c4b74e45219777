-- Cells in which each organism is bounded.
use Rattle.std.proofs.Common.{◌^◌, ◌≡◌, set-set, ℕ, ◌<◌, ◌≤◌, List, Option, None, Some, replicate, arith}
use Rattle.world_core.proofs.Prelude.{set, All-replicate, All-set, Occupant, AreBounded, IsBoundedIn}

-- somebody new is bounded in every update
pub AreBounded_put : (update : ℕ) (cells : List (Option Occupant)) (cell : ℕ) (o : Occupant)
    → o.organism.age < 2 ^ 48 → o.organism.merit ≤ 2 ^ 38 → AreBounded update cells
    → AreBounded update (set cells cell (Some o))
AreBounded_put update cells cell o young fits sound =
    All-set (IsBoundedIn update) cells cell (Some o)
    (omega (arith, young), fits) sound

-- so are cells in which nobody stands
pub AreBounded_none : (update count : ℕ) → AreBounded update (replicate count None)
AreBounded_none update count = All-replicate (IsBoundedIn update) count None tt

-- so is a cell from which somebody went
pub AreBounded_gone : (update : ℕ) (cells : List (Option Occupant)) (cell : ℕ)
    → AreBounded update cells → AreBounded update (set cells cell None)
AreBounded_gone update cells cell sound = All-set (IsBoundedIn update) cells cell None tt sound

-- what is put over something stands there alone
pub set_over : {X : Type 0} (xs : List X) (i : ℕ) (x y : X) → set (set xs i x) i y ≡ set xs i y
set_over xs i x y = set-set xs i x y
