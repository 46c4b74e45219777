use Rattle.std.proofs.Common.{option_map, refl, sym, ap, ◌∙◌, arith}
use Rattle.world_config.proofs.Prelude.{drop_all, map-append, event_value, event_values, event_refusal, frame_value}
use Rattle.world_config.proofs.MemberLemmas.{events_of-ended, events_of-kept, events_of-stopped}
use Rattle.world_config.proofs.event_forms.events.Goals as goal

pub loop-place-init : goal.loop-place-init
loop-place-init c = record {
  read = rw c.in_ok-events.ensures.items refl;
  number = c.in_ok-events.ensures.len;
  room = c.in_ok-events.ensures.capacity;
}

pub returns-in-None-clause-refused : goal.returns-in-None-clause-refused
returns-in-None-clause-refused c = λ _.
    ap event_refusal (events_of-stopped (frame_value c.args.frame.now) c.args.members.now
    c.loop-place.place c.loop-place.least
    (event_values c.loop-place.events.items) c.loop-place.invariant.read
    c.index-members-place.result c.loop-place-test.true c.index-members-place.is
    (sym c.in_ok-event.ensures ∙ ap (option_map event_value) c.in-None.is))

pub loop-place-preserved : goal.loop-place-preserved
loop-place-preserved c = record {
  read =
      rw (c.push_reserved.ensures.items, map-append)
      (events_of-kept (frame_value c.args.frame.now) c.args.members.now c.loop-place.place
      c.loop-place.least
      (event_values c.loop-place.events.items) c.loop-place.invariant.read
      c.index-members-place.result (event_value c.in-Some.event) c.loop-place-test.true
      c.index-members-place.is
      (sym c.in_ok-event.ensures ∙ ap (option_map event_value) c.in-Some.is));
  number = omega (arith, c.push_reserved.ensures.len, c.loop-place.invariant.number);
  room = omega (arith, c.push_reserved.ensures.capacity, c.loop-place.invariant.room);
}

pub returns-clause-value : goal.returns-clause-value
returns-clause-value c =
    rw c.from_vec.ensures
    (events_of-ended (frame_value c.args.frame.now) c.args.members.now c.loop-place.place
    c.loop-place.least
    (event_values c.loop-place.events.items) c.loop-place.invariant.read
    (drop_all c.loop-place.place c.args.members.now c.loop-place-test.false))
