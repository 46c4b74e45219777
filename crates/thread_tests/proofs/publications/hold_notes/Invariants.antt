use Rattle.std.proofs.Common.{◌≡◌, Some}
use Rattle.published_world.specs.PublicationHistory.{last_of}
use Rattle.thread_tests.proofs.publications.hold_notes.Given as goal

abbrev pub invariant-loop-held : goal.invariant-loop-held
invariant-loop-held g l = last_of l.publisher ≡ Some (record { number = l.held })
