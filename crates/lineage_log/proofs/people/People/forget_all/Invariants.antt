use Rattle.std.proofs.Common.{◌≡◌, drop}
use Rattle.lineage_log.proofs.StandingLemmas.{without}
use Rattle.lineage_log.proofs.people.People.forget_all.Given as goal

abbrev pub invariant-loop-id : goal.invariant-loop-id
invariant-loop-id l = without (drop l.id-index l.ids) l.self ≡ without l.ids l.initial.self
