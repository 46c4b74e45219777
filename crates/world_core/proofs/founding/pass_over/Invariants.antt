use Rattle.std.proofs.Common.{◌≡◌}
use Rattle.world_core.proofs.Prelude.{after}
use Rattle.world_core.proofs.founding.pass_over.Given as goal

abbrev pub invariant-loop : goal.invariant-loop
invariant-loop l = l.draws ≡ after l.counter l.initial.draws
