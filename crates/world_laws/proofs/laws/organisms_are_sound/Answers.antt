use Rattle.world_laws.proofs.Prelude.{values_of}
use Rattle.world_laws.proofs.ConfigBounds.{config_is}
use Rattle.world_laws.proofs.Merits.{merits_after}
use Rattle.world_laws.proofs.WholeLogs.{run_after}
use Rattle.world_laws.proofs.laws.organisms_are_sound.Goals as goal

pub returns-clause-each : goal.returns-clause-each
returns-clause-each c =
    (run_after c.lives_are_lawful.ensures (values_of c.args.config.now)
    (config_is c.args.config.now) c.args.updates).sound

pub returns-clause-merits : goal.returns-clause-merits
returns-clause-merits c =
    merits_after c.lives_are_lawful.ensures (values_of c.args.config.now)
    (config_is c.args.config.now) c.args.updates
