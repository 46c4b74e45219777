use Rattle.std.proofs.Common.{◌≡◌, ◌≤◌, map, take, length, vec_len, vec_capacity}
use Rattle.world_config.proofs.Prelude.{items_view, event_value, items_for}
use Rattle.world_config.proofs.event_tables.event_tables.Given as goal

abbrev pub invariant-loop-event : goal.invariant-loop-event
invariant-loop-event l = record {
  seen : items_view l.tables.items ≡ items_for (map event_value (take l.event-index l.events));
  number : vec_len l.tables ≡ l.event-index;
  room : length l.events ≤ vec_capacity l.tables;
}
