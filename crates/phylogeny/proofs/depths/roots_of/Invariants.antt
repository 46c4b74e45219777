use Rattle.std.proofs.Common.{◌≡◌, ℕ, ◌<◌, Some, length}
use Rattle.std.specs.Prelude.{slice_get}
use Rattle.phylogeny.proofs.Prelude.{parent_at, line}
use Rattle.phylogeny.proofs.AncestorLemmas.{depth_in, founder_in}
use Rattle.phylogeny.proofs.depths.roots_of.Given as goal

-- the ids so far have the depths and founders of their lines
abbrev pub invariant-loop-id : goal.invariant-loop-id
invariant-loop-id l = record {
  as_many : length l.roots.items ≡ l.id;
  roots : (id : ℕ) → id < l.id → slice_get l.roots.items id ≡ Some (record {
    depth = depth_in (line (parent_at l.parents) id);
    founder = founder_in (line (parent_at l.parents) id);
  });
}
