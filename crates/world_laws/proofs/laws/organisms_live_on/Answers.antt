use Rattle.world_laws.proofs.Prelude.{values_of, world_after}
use Rattle.world_laws.proofs.ConfigBounds.{config_is}
use Rattle.world_laws.proofs.Endings.{live_on}
use Rattle.world_laws.proofs.WholeLogs.{run_after}
use Rattle.world_laws.proofs.laws.organisms_live_on.Goals as goal

pub returns : goal.returns
returns c =
    let config = values_of c.args.config.now in
    let fit = config_is c.args.config.now in
    let run = run_after c.lives_are_lawful.ensures config fit c.args.updates in
    live_on c.lives_are_lawful.ensures config fit (world_after config c.args.updates) run.sound
