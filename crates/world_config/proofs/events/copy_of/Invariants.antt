use Rattle.std.proofs.Common.{◌≡◌, ◌≤◌, take, length, vec_len, vec_capacity}
use Rattle.world_config.proofs.Prelude.{event_values}
use Rattle.world_config.proofs.events.copy_of.Given as goal

abbrev pub invariant-loop-event : goal.invariant-loop-event
invariant-loop-event l = record {
  copied : event_values l.copies.items ≡ event_values (take l.event-index l.events);
  number : vec_len l.copies ≡ l.event-index;
  room : length l.events ≤ vec_capacity l.copies;
}
