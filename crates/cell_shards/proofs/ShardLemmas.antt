-- The first cells of shards, which rise.
use Rattle.std.proofs.Common.{◌≡◌, ℕ, zero, suc, ◌+◌, ◌*◌, ◌<◌, ◌≤◌, inl, inr, arith, add-one}
use Rattle.cell_shards.proofs.Prelude.{cases_lt, first_cell, IsInShard}
use Rattle.std.proofs.Math.Nat.{div-mul-le_self, mul-le-mul_left, mul-div_cancel, div-le_of_le-mul}
use Rattle.std.proofs.lemmas.Nat.{le-div}

-- a later shard begins no earlier
pub first_cell-rises : (cells workers shard later : ℕ) → 1 ≤ workers → shard ≤ later
    → first_cell cells workers shard ≤ first_cell cells workers later
first_cell-rises cells workers shard later some up =
    le-div (first_cell cells workers shard) (cells * later) workers (omega arith)
    (omega (arith, div-mul-le_self (cells * shard) workers, mul-le-mul_left cells up))

-- the first shard begins at 0
pub first_cell-zero : (cells workers : ℕ) → first_cell cells workers 0 ≡ 0
first_cell-zero cells workers =
    let nothing : first_cell cells workers 0 ≤ 0 = div-le_of_le-mul workers (omega arith) in
    omega (arith, nothing)

-- the last shard ends at the number of cells
pub first_cell-end : (cells workers : ℕ) → 1 ≤ workers → first_cell cells workers workers ≡ cells
first_cell-end cells workers some =
    let positive : 0 < workers = omega arith in
    mul-div_cancel cells positive

-- a cell before the first one of a shard is in an earlier shard
shard_before : (cells workers cell n : ℕ) → cell < first_cell cells workers n
    → (shard : ℕ) × (shard < n) × IsInShard cells workers shard cell
shard_before cells workers cell zero below =
    absurd (omega (arith, below, first_cell-zero cells workers))
shard_before cells workers cell (suc n) below =
    elim (cases_lt cell (first_cell cells workers n)) [
      | inl left ↦
          let found = shard_before cells workers cell n left in
          (found.0, omega (arith, found.1), found.2)
      | inr from ↦ (
        n,
        omega arith,
        record {
          from = from;
          before = rw (add-one n) below;
        },
      )
    ]

-- each cell is in a shard
pub shard_of : (cells workers cell : ℕ) → 1 ≤ workers → cell < cells
    → (shard : ℕ) × (shard < workers) × IsInShard cells workers shard cell
shard_of cells workers cell some below =
    shard_before cells workers cell workers
    (omega (arith, below, first_cell-end cells workers some))

-- a cell of a shard is in no later one
not_later : (cells workers shard later cell : ℕ) → 1 ≤ workers → IsInShard cells workers shard cell
    → IsInShard cells workers later cell → shard < later → ⊥
not_later cells workers shard later cell some here there up =
    let rises : first_cell cells workers (shard + 1) ≤ first_cell cells workers later =
    first_cell-rises cells workers (shard + 1) later some (omega arith) in
    omega (arith, rises, here.before, there.from)

-- no cell is in two shards
pub shard-only : (cells workers shard other cell : ℕ) → 1 ≤ workers
    → IsInShard cells workers shard cell → IsInShard cells workers other cell → shard ≡ other
shard-only cells workers shard other cell some here there =
    elim (cases_lt shard other) [
      | inl up ↦ absurd (not_later cells workers shard other cell some here there up)
      | inr level ↦
          elim (cases_lt other shard) [
            | inl down ↦ absurd (not_later cells workers other shard cell some there here down)
            | inr low ↦ omega (arith, level, low)
          ]
    ]
