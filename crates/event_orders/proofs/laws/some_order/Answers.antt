use Rattle.event_orders.proofs.Prelude.{values_of}
use Rattle.event_orders.proofs.Serial.{schedule_for}
use Rattle.event_orders.proofs.laws.some_order.Goals as goal

pub returns : goal.returns
returns c seat_of = schedule_for (values_of c.args.config.now) seat_of c.args.updates
