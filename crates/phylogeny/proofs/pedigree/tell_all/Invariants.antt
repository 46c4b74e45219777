use Rattle.std.proofs.Common.{◌≡◌, ◌++◌, [], drop}
use Rattle.phylogeny.proofs.Prelude.{parents_in, standing_after}
use Rattle.phylogeny.proofs.pedigree.tell_all.Given as goal

-- the lines that are left make of what was told what all lines make of nothing
abbrev pub invariant-loop-at : goal.invariant-loop-at
invariant-loop-at l = record {
  parents : l.pedigree.parents.items ++ parents_in (drop l.at l.log) ≡ parents_in l.log;
  standing : standing_after l.pedigree.standing.items (drop l.at l.log) ≡ standing_after [] l.log;
}
