use Rattle.std.proofs.Common.{sym, ap, ◌∙◌, subst, ◌≡◌, IfOk, Some, slice_get}
use Rattle.genotype_bank.proofs.Prelude.{letters, entry, call_of, calls_under, genotypes_of, MakesCall, Seated, seat_of, last_call, Call}
use Rattle.std.specs.Result.{is_ok}
use Rattle.genotype_bank.proofs.CallLemmas.{grows, known_after, makes_call}
use Rattle.genotype_bank.proofs.DifferentLemmas.{genotypes_of_push}
use Rattle.genotype_bank.proofs.bank.Bank.intern.Goals as goal

pub end_turn-requires-clause-known : goal.end_turn-requires-clause-known
end_turn-requires-clause-known g c =
    let served = c.wait_for_turn-catalog.ensures.served in
    let seen = ap (λ (me : Seated). me.0.seen) served.1 in
    known_after c.one_index.ensures.list c.wait_for_turn-catalog.result c.serve-result.new.self
    c.wait_for_turn-catalog.new.pass.me served.0 c.serve-result.ensures.genomes served.2 seen

pub returns-clause-call : goal.returns-clause-call
returns-clause-call g c =
    let drawn = c.draw-ticket.ensures.drawn in
    let served = c.wait_for_turn-catalog.ensures.served in
    let catalog = c.serve-result.new.self in
    let ended = c.end_turn.ensures.ended in
    let v = c.seat.inside.pass in
    let w = c.end_turn.new.pass in
    let grown = grows v.me.0 drawn.0 drawn.1 served.0 (last_call catalog) _ _ _ _ _ drawn.3 served.1
    ended drawn.4 served.3 served.4 in
    let share =
    ap (λ (me : Seated). me.0.share) served.1 ∙ ap (λ (me : Seated). me.0.share) drawn.3 in
    let made =
    makes_call v.table_id w.table_id v.me w.me (last_call catalog) grown c.seat.invariant.owns
    (λ whole. subst (λ carried. calls_under carried w.me.0.seen ≡ w.me.0.seen)
    (sym (ap (λ (me : Seated). me.0.carried) ended)) (c.end_turn.ensures.whole (share ∙ whole)))
    in
    subst (λ before. MakesCall before (seat_of w.table_id w.me)
    (call_of (is_ok c.serve-result.result) (letters c.args.genome))) c.seat.view_is
    (subst (λ (call : Call). MakesCall (seat_of v.table_id v.me) (seat_of w.table_id w.me) call)
    c.serve-result.ensures.call made)

pub returns-clause-number : goal.returns-clause-number
returns-clause-number g c =
    let served = c.wait_for_turn-catalog.ensures.served in
    let seen = ap (λ (me : Seated). me.0.seen) served.1 in
    let known = known_after c.one_index.ensures.list c.wait_for_turn-catalog.result
    c.serve-result.new.self c.wait_for_turn-catalog.new.pass.me served.0
    c.serve-result.ensures.genomes served.2 seen in
    let now =
    known ∙ ap genotypes_of (sym (ap (λ (me : Seated). me.0.seen) c.end_turn.ensures.ended)) in
    subst (λ genotypes. IfOk c.serve-result.result
    (λ handle. slice_get genotypes handle.number ≡ Some (letters c.args.genome))) now
    c.serve-result.ensures.number

pub returns-clause-alone : goal.returns-clause-alone
returns-clause-alone g c =
    let made = returns-clause-call g c in
    λ whole. ap genotypes_of (made.alone whole)
    ∙ genotypes_of_push c.one_index.ensures.list c.args.seat.now.seen
    (entry made.number (call_of (is_ok c.serve-result.result) (letters c.args.genome)))
