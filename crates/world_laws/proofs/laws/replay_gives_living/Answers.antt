use Rattle.std.proofs.Common.{arith}
use Rattle.world_laws.proofs.Prelude.{values_of}
use Rattle.world_laws.proofs.ConfigBounds.{config_is}
use Rattle.world_laws.proofs.Replays.{replays_to_living}
use Rattle.world_laws.proofs.laws.replay_gives_living.Goals as goal

pub returns : goal.returns
returns c =
    replays_to_living c.lives_are_lawful.ensures (record { reads = c.read_exactly.ensures })
    (values_of c.args.config.now) (config_is c.args.config.now) c.args.updates (omega arith)
