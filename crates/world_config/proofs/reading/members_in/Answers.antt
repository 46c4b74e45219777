use Rattle.std.proofs.Common.{length, arith}
use Rattle.world_config.proofs.Prelude.{Event}
use Rattle.world_config.proofs.KindLemmas.{unless_within-none}
use Rattle.world_config.proofs.RefusalLemmas.{item_count_of_view}
use Rattle.world_config.proofs.reading.members_in.Goals as goal

pub returns-clause-accepted : goal.returns-clause-accepted
returns-clause-accepted c =
    rw (c.in_ok-members.ensures.value, item_count_of_view)
    (unless_within-none Event 0 1000 (length c.in_ok-members.members.now)
    (omega arith) c.if-members.false)
