-- How much work the lives of an update are.
use Rattle.std.proofs.Common.{ℕ, zero, suc, ◌+◌, ◌*◌, ◌≤◌, List, [], ◌∷◌, length, map, sum, arith}
use Rattle.world_core.proofs.Prelude.{sum_by-cons, load_of}

-- a cell's load
load-one : (steps : ℕ) → load_of steps ≤ steps + 16
load-one zero = omega arith
load-one (suc steps) = omega arith

-- all cells together are little more than their steps
pub sum_loads : (slices : List ℕ) → sum (map load_of slices) ≤ sum slices + 16 * length slices
sum_loads [] = omega arith
sum_loads (steps ∷ slices) =
    omega (
      arith,
      load-one steps,
      sum_by-cons (λ (x : ℕ). x) steps slices,
      sum_by-cons (λ (x : ℕ). x) (load_of steps) (map load_of slices),
      sum_loads slices,
    )
