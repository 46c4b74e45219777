-- What follows from the answers of a machine.
use Rattle.std.proofs.Common.{◌≡◌, refl}
use Rattle.organism.proofs.Prelude.{RuleNumbers, StepAnswer, Plain, Copied, Output, Asks, Allocated, TellsNothing, after_did, OrganismState, Nothing}

-- where a machine tells nothing, nothing follows
pub nothing_follows : (o : OrganismState) (rules : RuleNumbers) (did : StepAnswer)
    → TellsNothing did → after_did o rules did ≡ (o, Nothing)
nothing_follows o rules Plain quiet = refl
nothing_follows o rules Copied quiet = refl
nothing_follows o rules Allocated quiet = refl
nothing_follows o rules (Output value) quiet = absurd quiet
nothing_follows o rules (Asks ask) quiet = absurd quiet
