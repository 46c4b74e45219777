use Rattle.std.proofs.Common.{◌∙◌, ap, arith}
use Rattle.world_config.proofs.Prelude.{table, view-Table}
use Rattle.world_config.proofs.TableLemmas.{items_view-more}
use Rattle.world_config.proofs.event_tables.event_tables.Goals as goal

pub loop-event-preserved : goal.loop-event-preserved
loop-event-preserved c =
    record {
      seen = rw c.push_reserved.ensures.items
          (items_view-more c.loop-event.tables.items _ c.args.events.now c.loop-event.event-index
          c.event-item.result c.loop-event-test.true c.event-item.is
          c.loop-event.invariant.seen (view-Table c.in_ok-event_table.field-0
          ∙ ap table c.in_ok-event_table.ensures));
      number = omega (arith, c.push_reserved.ensures.len, c.loop-event.invariant.number);
      room = omega (arith, c.push_reserved.ensures.capacity, c.loop-event.invariant.room);
    }
