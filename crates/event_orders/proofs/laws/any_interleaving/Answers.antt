use Rattle.event_orders.proofs.Prelude.{take-length, values_of}
use Rattle.event_orders.proofs.Interleaving.{goes_on_with}
use Rattle.event_orders.proofs.laws.any_interleaving.Goals as goal

pub returns : goal.returns
returns c =
    goes_on_with (values_of c.args.config.now) c.args.events.now
    (take-length c.args.events.now) c.requires
