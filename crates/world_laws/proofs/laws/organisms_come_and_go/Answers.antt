use Rattle.world_laws.proofs.Prelude.{values_of}
use Rattle.world_laws.proofs.ConfigBounds.{config_is}
use Rattle.world_laws.proofs.Turnovers.{turnover_after}
use Rattle.world_laws.proofs.laws.organisms_come_and_go.Goals as goal

pub returns : goal.returns
returns c =
    turnover_after c.lives_are_lawful.ensures (values_of c.args.config.now)
    (config_is c.args.config.now) c.args.updates
