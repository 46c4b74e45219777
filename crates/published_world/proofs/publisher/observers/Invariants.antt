use Rattle.std.proofs.Common.{◌≡◌, [], ◌∷◌, replicate}
use Rattle.published_world.proofs.publisher.observers.Given as goal

abbrev pub invariant-loop : goal.invariant-loop
invariant-loop g l =
    (l.history ≡ l.fn.history) × (l.all.items ≡ replicate l.counter (l.fn.first.value ∷ []))
