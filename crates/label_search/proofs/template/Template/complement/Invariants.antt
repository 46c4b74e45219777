use Rattle.std.proofs.Common.{◌≡◌, take}
use Rattle.label_search.proofs.Prelude.{complements_of}
use Rattle.label_search.proofs.template.Template.complement.Given as goal

abbrev pub invariant-loop-at : goal.invariant-loop-at
invariant-loop-at l = l.complement ≡ complements_of (take l.at l.self)
