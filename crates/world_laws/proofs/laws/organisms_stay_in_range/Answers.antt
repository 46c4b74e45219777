use Rattle.world_laws.proofs.Prelude.{values_of}
use Rattle.world_laws.proofs.ConfigBounds.{config_is}
use Rattle.world_laws.proofs.Ranges.{ids_after, range_after}
use Rattle.world_laws.proofs.laws.organisms_stay_in_range.Goals as goal

pub returns-clause-each : goal.returns-clause-each
returns-clause-each c =
    range_after c.lives_are_lawful.ensures c.steps_leave_machines.ensures.kept
    (values_of c.args.config.now) (config_is c.args.config.now) c.args.updates

pub returns-clause-ids : goal.returns-clause-ids
returns-clause-ids c =
    ids_after c.lives_are_lawful.ensures (values_of c.args.config.now)
    (config_is c.args.config.now) c.args.updates
