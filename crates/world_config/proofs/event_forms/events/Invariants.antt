use Rattle.std.proofs.Common.{◌≡◌, ◌+◌, ◌≤◌, length, drop, vec_len, vec_capacity}
use Rattle.world_config.proofs.Prelude.{items_view, event_values, frame_value, events_from, events_of}
use Rattle.world_config.proofs.MemberLemmas.{resumed}
use Rattle.world_config.proofs.event_forms.events.Given as goal

abbrev pub invariant-loop-place : goal.invariant-loop-place
invariant-loop-place l = record {
  read : events_of (frame_value l.frame) (items_view l.members)
      ≡ resumed (event_values l.events.items)
      (events_from (frame_value l.frame) (items_view (drop l.place l.members))
      (l.place + 1) l.least);
  number : vec_len l.events ≡ l.place;
  room : length l.members ≤ vec_capacity l.events;
}
