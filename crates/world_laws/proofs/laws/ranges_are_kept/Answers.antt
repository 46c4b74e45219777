use Rattle.world_laws.proofs.Ranges.{stay_next}
use Rattle.world_laws.proofs.laws.ranges_are_kept.Goals as goal

pub returns : goal.returns
returns c config ages w fit stand =
    stay_next c.lives_are_lawful.ensures c.steps_leave_machines.ensures.kept config fit ages w stand
