-- All merits of a world of sound organisms together.
use Rattle.std.proofs.Common.{◌+◌, ◌≡◌, ℕ, suc, ◌*◌, ◌≤◌, ◌^◌, List, [], ◌∷◌, map, length, sum, Option, Some, None, refl, ap, arith}
use Rattle.world_laws.proofs.Prelude.{length-map, sum_by-cons, IsSoundOrganism, ConfigValues, Occupant, merit_in, world_after, LifeLaws, IsConfig}
use Rattle.world_laws.proofs.Scenes.{Each}
use Rattle.world_laws.proofs.Configs.{few_cells}
use Rattle.world_laws.proofs.WholeLogs.{run_after}

-- no cell has more than the greatest merit
merit_few : (slot : Option Occupant) → ((o : Occupant) → slot ≡ Some o → IsSoundOrganism o.organism)
    → merit_in slot ≤ 2 ^ 38
merit_few None sound = omega arith
merit_few (Some o) sound = (sound o refl).merit

-- all merits together are at most the greatest one for each cell
merits_few : (cells : List (Option Occupant)) → Each IsSoundOrganism cells
    → sum (map merit_in cells) ≤ length (map merit_in cells) * 2 ^ 38
merits_few [] sound = omega arith
merits_few (slot ∷ cells) sound =
    let all : sum (map merit_in (slot ∷ cells)) ≡ merit_in slot + sum (map merit_in cells) =
    sum_by-cons (λ x. x) (merit_in slot) (map merit_in cells) in
    let first = merit_few slot (λ o e. sound 0 o (ap Some e)) in
    omega (arith, first, merits_few cells (λ cell o h. sound (suc cell) o h))

-- the merits of a world of a run
pub merits_after : LifeLaws → (config : ConfigValues) → IsConfig config → (n : ℕ)
    → sum (map merit_in (world_after config n).cells) ≤ 2 ^ 54
merits_after laws config fit n =
    let is = run_after laws config fit n in
    let few = merits_few (world_after config n).cells is.sound in
    let same = length-map (world_after config n).cells merit_in in
    omega (arith, few, same, is.world.sized, few_cells config fit)
