use Rattle.std.proofs.Common.{arith}
use Rattle.world_core.proofs.Prelude.{on_ok_weaker}
use Rattle.world_core.proofs.GrowLemmas.{Grows_same}
use Rattle.world_core.proofs.events.apply_event.Goals as goal

pub returns-in-Clear-clause-grown : goal.returns-in-Clear-clause-grown
returns-in-Clear-clause-grown g c =
    on_ok_weaker c.clear.result
    (λ is. (is.0, rw is.1 (omega arith), is.2, Grows_same _ _ _ _ is.3 is.1)) c.clear.ensures.kept
