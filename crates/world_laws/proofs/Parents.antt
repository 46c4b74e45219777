-- The parents of the newborns of an update.
use Rattle.std.proofs.Common.{ℕ, ◌+◌, List, length, arith, ◌∷◌, Option}
use Rattle.world_laws.proofs.Prelude.{AllByRecursion, enumerate_from, flat_map, zip, Placing, ConfigValues, Occupant, CellLife, Delivery, births_in}
use Rattle.world_laws.proofs.AfterLives.{births_hold}
use Rattle.world_laws.proofs.Scenes.{Stands}
use Rattle.world_laws.proofs.LivesLemmas.{AreLives}

-- the parents of the newborns of all cells
pub parents_from : (P : ℕ → Type 0) (config : ConfigValues) (steps : ℕ → ℕ) (from : ℕ)
    (cells : List (Option Occupant)) (lives : List CellLife)
    → AreLives config steps from cells lives
    → ((cell : ℕ) (o : Occupant) → Stands cells cell o → P o.id)
    → AllByRecursion (λ (d : Delivery). P d.parent) (flat_map births_in (enumerate_from from lives))
parents_from P config steps from cells lives are each =
    births_hold config (λ d. P d.parent) steps (from + length cells) from cells lives are
    (omega arith) (λ cell at o n there low born. each cell o there)

-- the same with their placings
pub zip_parents : (P : ℕ → Type 0) (births : List Delivery) (placings : List Placing)
    → AllByRecursion (λ (d : Delivery). P d.parent) births
    → AllByRecursion (λ (turn : Delivery × Placing). P turn.0.parent) (zip births placings)
zip_parents P (b ∷ births) (p ∷ placings) are = (are.0, zip_parents P births placings are.1)
zip_parents P _ _ are = tt
