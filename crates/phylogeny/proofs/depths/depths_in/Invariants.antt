use Rattle.std.proofs.Common.{◌≡◌, ◌++◌, drop, map}
use Rattle.phylogeny.proofs.Prelude.{depth_at, living_from, pedigree_with}
use Rattle.phylogeny.proofs.depths.depths_in.Given as goal

-- the depths so far, and those of the cells that are left
abbrev pub invariant-loop-cell : goal.invariant-loop-cell
invariant-loop-cell l =
    l.depths.items ++ map (depth_at (pedigree_with l.parents l.standing))
    (living_from l.cell (drop l.cell l.standing))
    ≡ map (depth_at (pedigree_with l.parents l.standing)) (living_from 0 l.standing)
