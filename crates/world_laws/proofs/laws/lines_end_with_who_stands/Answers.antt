use Rattle.world_laws.proofs.Prelude.{values_of}
use Rattle.world_laws.proofs.ConfigBounds.{config_is}
use Rattle.world_laws.proofs.LineDescents.{line_ends}
use Rattle.world_laws.proofs.laws.lines_end_with_who_stands.Goals as goal

pub returns : goal.returns
returns c cell occupant stands =
    line_ends c.lines_are_lawful.ensures c.lives_are_lawful.ensures (values_of c.args.config.now)
    (config_is c.args.config.now) c.args.updates cell occupant stands
