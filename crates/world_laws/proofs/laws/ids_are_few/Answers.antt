use Rattle.std.proofs.Common.{arith}
use Rattle.world_laws.proofs.Prelude.{values_of}
use Rattle.world_laws.proofs.ConfigBounds.{config_is}
use Rattle.world_laws.proofs.Ids.{log_gives_few, people_are_few}
use Rattle.world_laws.proofs.laws.ids_are_few.Goals as goal

pub returns-clause-everyone : goal.returns-clause-everyone
returns-clause-everyone c =
    people_are_few c.lives_are_lawful.ensures (values_of c.args.config.now)
    (config_is c.args.config.now) c.args.updates (omega arith) (c.ids_are_places.ensures _ _)

pub returns-clause-log : goal.returns-clause-log
returns-clause-log c lines =
    log_gives_few c.lives_are_lawful.ensures (values_of c.args.config.now)
    (config_is c.args.config.now) c.args.updates (omega arith)
    (record { reads = c.read_exactly.ensures }) lines
