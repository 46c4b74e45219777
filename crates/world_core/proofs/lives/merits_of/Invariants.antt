use Rattle.std.proofs.Common.{◌≡◌, map, take}
use Rattle.world_core.proofs.Prelude.{merit_or_zero}
use Rattle.world_core.proofs.lives.merits_of.Given as goal

abbrev pub invariant-loop-standing : goal.invariant-loop-standing
invariant-loop-standing l =
    l.merits.items ≡ map merit_or_zero (take l.standing-index l.standings)
