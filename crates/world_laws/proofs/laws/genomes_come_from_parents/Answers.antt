use Rattle.world_laws.proofs.Prelude.{values_of}
use Rattle.world_laws.proofs.ConfigBounds.{config_is}
use Rattle.world_laws.proofs.Descents.{descended_after}
use Rattle.world_laws.proofs.LineDescents.{line_descends}
use Rattle.world_laws.proofs.laws.genomes_come_from_parents.Goals as goal

pub returns-clause-everyone : goal.returns-clause-everyone
returns-clause-everyone c =
    descended_after c.lives_are_lawful.ensures (values_of c.args.config.now)
    (config_is c.args.config.now) c.args.updates

pub returns-clause-line : goal.returns-clause-line
returns-clause-line c cell =
    line_descends c.lines_are_lawful.ensures c.lives_are_lawful.ensures
    (values_of c.args.config.now) (config_is c.args.config.now) c.args.updates cell
