use Rattle.std.proofs.Common.{◌≡◌, fold, take}
use Rattle.world_core.proofs.GenotypeLemmas.{next_len}
use Rattle.world_core.proofs.genotypes.len_after.Given as goal

-- the newborns so far were counted
abbrev pub invariant-loop-birth : goal.invariant-loop-birth
invariant-loop-birth l = l.most ≡ fold next_len l.len (take l.birth-index l.births)
