use Rattle.std.proofs.Common.{◌∙◌, ap, Ok}
use Rattle.world_config.proofs.Prelude.{err_from_is_err_and, items_view, table_view, event_values, numbers_frame}
use Rattle.world_config.proofs.EventLemmas.{AreEvents-read}
use Rattle.world_config.proofs.RefusalLemmas.{accepted_values, genome_at-ancestor, item_count_of_view, refused_by_ancestor, refused_by_events, refused_by_members}
use Rattle.world_config.proofs.reading.known_in.Goals as goal

pub returns-in_err-ancestor-clause-refused : goal.returns-in_err-ancestor-clause-refused
returns-in_err-ancestor-clause-refused c =
    let p = err_from_is_err_and c.from_residual-in_err-ancestor.result
    c.from_residual-in_err-ancestor.ensures.1 in
    rw (p.1, p.2) (λ some. refused_by_ancestor (table_view c.args.table.now) c.in_ok-numbers.numbers
    c.in_ok-numbers.ensures.value c.in_ok-numbers.ensures.accepted _ _
    (c.in_err-ancestor.ensures.refused some))

pub returns-in_err-members-clause-refused : goal.returns-in_err-members-clause-refused
returns-in_err-members-clause-refused c =
    let p = err_from_is_err_and c.from_residual-in_err-members.result
    c.from_residual-in_err-members.ensures.1 in
    rw (p.1, p.2) (λ _. refused_by_members (table_view c.args.table.now) c.in_ok-numbers.numbers
    c.in_ok-numbers.ensures.value c.in_ok-numbers.ensures.accepted _ _
    c.in_ok-ancestor.ensures.accepted c.in_err-members.ensures.refused)

pub returns-in_err-event-clause-refused : goal.returns-in_err-event-clause-refused
returns-in_err-event-clause-refused c =
    let p = err_from_is_err_and c.from_residual-in_err-event.result
    c.from_residual-in_err-event.ensures.1 in
    rw (p.1, p.2) (λ some. refused_by_events (table_view c.args.table.now) c.in_ok-numbers.numbers
    c.in_ok-numbers.ensures.value c.in_ok-numbers.ensures.accepted
    c.in_ok-members.members.now _ c.in_ok-ancestor.ensures.accepted c.in_ok-members.ensures.accepted
    c.in_ok-members.ensures.value (rw (← c.frame.ensures) (c.in_err-event.ensures.refused some)))

pub of_numbers-requires-clause-event_bounds : goal.of_numbers-requires-clause-event_bounds
of_numbers-requires-clause-event_bounds c =
    AreEvents-read (numbers_frame c.in_ok-numbers.numbers)
    (items_view c.in_ok-members.members.now) (event_values c.in_ok-event.event)
    (rw item_count_of_view c.in_ok-members.ensures.within)
    (rw (← c.frame.ensures) c.in_ok-event.ensures.value)

pub returns-clause-value : goal.returns-clause-value
returns-clause-value c =
    accepted_values (table_view c.args.table.now) c.in_ok-numbers.numbers
    c.in_ok-numbers.ensures.value c.in_ok-numbers.ensures.accepted
    c.in_ok-members.members.now (event_values c.in_ok-event.event) c.in_ok-ancestor.ensures.accepted
    c.in_ok-members.ensures.accepted c.in_ok-members.ensures.value
    (rw (← c.frame.ensures) c.in_ok-event.ensures.value)
    ∙ ap Ok (c.of_numbers.ensures (table_view c.args.table.now) c.in_ok-numbers.ensures.value
    (genome_at-ancestor (table_view c.args.table.now) ∙ c.in_ok-ancestor.ensures.value))
