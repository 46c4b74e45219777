use Rattle.phylogeny.proofs.WalkLemmas.{IsWalked}
use Rattle.phylogeny.proofs.shape.shape_of.Given as goal

-- the ids from here on are walked
abbrev pub invariant-loop-id : goal.invariant-loop-id
invariant-loop-id l =
    IsWalked l.parents l.standing l.id l.descendants.items l.children.items l.shape
