use Rattle.world_laws.proofs.Prelude.{values_of}
use Rattle.world_laws.proofs.ConfigBounds.{config_is}
use Rattle.world_laws.proofs.Endings.{live_on, next_sound}
use Rattle.world_laws.proofs.laws.sound_organisms_live_on.Goals as goal

pub returns-clause-lives : goal.returns-clause-lives
returns-clause-lives c =
    live_on c.lives_are_lawful.ensures (values_of c.args.config.now) (config_is c.args.config.now)

pub returns-clause-next : goal.returns-clause-next
returns-clause-next c =
    next_sound c.lives_are_lawful.ensures (values_of c.args.config.now)
    (config_is c.args.config.now)
