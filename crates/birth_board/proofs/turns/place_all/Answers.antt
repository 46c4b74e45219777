use Rattle.std.proofs.Common.{◌≡◌, ◌∙◌, sym, ap, ◌+◌, ◌*◌, ◌<◌, ◌≤◌, ◌==◌, length, take, count_by, get_or, arith, length-take, length-append, [], ◌∷◌, eq-eqb, refl}
use Rattle.std.proofs.lemmas.Bool.{ne_eqb}
use Rattle.std.proofs.lemmas.List.{length-set}
use Rattle.std.proofs.lemmas.List.Elements.{All-push, All-same}
use Rattle.random_streams.specs.RandomStream.{after}
use Rattle.std.proofs.lemmas.List.Sums.{count_by_more_yes, count_by_more_no}
use Rattle.birth_board.specs.declared.placing.Placing.{Placing}
use Rattle.birth_board.specs.Torus.{torus_numbers, cells_of}
use Rattle.birth_board.specs.Placement.{place_stream}
use Rattle.birth_board.proofs.PlacementLemmas.{board_after, board-parents, board_after-all, board_after-more, words-taken, placing-next, next_board-is}
use Rattle.birth_board.proofs.turns.place_all.Goals as goal

pub loop-parent-preserved : goal.loop-parent-preserved
loop-parent-preserved c =
    let torus = torus_numbers c.args.torus.now in
    let round = c.args.round.now in
    let parents = c.args.parents.now in
    let i = c.loop-parent.parent-index in
    let before = take i parents in
    let parent = get_or parents i 0 in
    let turn = c.loop-parent.turn in
    let board = board_after torus round c.args.occupants.now before in
    let within : i < length parents = c.loop-parent-test.true in
    let many : length before ≡ i = omega (arith, length-take i parents) in
    let order : turn.cell ≤ parent = c.loop-parent.invariant.order i (omega arith) within in
    let taken = words-taken turn.cell parent turn.draws.taken before order
    (ap (λ s. s.taken) c.loop-parent.invariant.stream) c.loop-parent.invariant.later in
    let stream = c.turn_to-turn.ensures.draws ∙ ap (place_stream round parent) taken in
    let id : c.loop-parent.id ≡ round.next_id + length before = omega arith in
    let placed = placing-next torus round board parent before c.loop-parent.occupants
    c.loop-parent.id c.turn_to-turn.result.draws c.place_one-placing.result
    (board-parents torus round _ before) c.loop-parent.invariant.occupants id stream
    c.place_one-placing.ensures.placing in
    let more = board_after-more torus round c.args.occupants.now parents i within in
    let counted : count_by (λ p. p == parent) (take (i + 1) parents)
    ≡ count_by (λ p. p == parent) before + 1 =
    count_by_more_yes (λ p. p == parent) parents i 0 within (eq-eqb parent parent refl) in
    let words : 4 * count_by (λ p. p == parent) before + 4
    ≡ 4 * count_by (λ p. p == parent) (take (i + 1) parents) = omega arith in
    let after_turn = next_board-is torus round board parent c.loop-parent.occupants
    c.place_one-placing.new.occupants c.loop-parent.placings.items c.push_reserved.new.self.items
    c.place_one-placing.result c.loop-parent.invariant.occupants c.loop-parent.invariant.placings
    placed c.place_one-placing.ensures.occupants c.push_reserved.ensures.items in
    let in_torus : Placing → Type 0 = λ placing. placing.cell < cells_of torus in
    record {
      stream = c.place_one-placing.ensures.draws ∙ ap (after 4) stream
          ∙ ap (place_stream round parent) words
          ∙ ap (λ q. place_stream round q (4 * count_by (λ p. p == q) (take (i + 1) parents)))
          (sym c.turn_to-turn.ensures.cell);
      later = λ q above.
          count_by_more_no (λ p. p == q) parents i 0 within
          (ne_eqb parent q (λ same. omega (arith, same, above)))
          ∙ c.loop-parent.invariant.later q (omega arith);
      order = λ k low high. omega (arith, c.requires.can.rising i k 0 (omega arith) high);
      id = omega arith;
      occupants = after_turn.0 ∙ ap (λ b. b.occupants) (sym more);
      placings = after_turn.1 ∙ ap (λ b. b.placings) (sym more);
      count = omega (
        arith,
        ap length c.push_reserved.ensures.items,
        length-append c.loop-parent.placings.items (c.place_one-placing.result ∷ []),
      );
      room = omega (arith, c.push_reserved.ensures.capacity);
      cells = ap length c.place_one-placing.ensures.occupants
          ∙ length-set c.loop-parent.occupants _ _ ∙ c.loop-parent.invariant.cells;
      in_torus = All-same in_torus _ _ c.push_reserved.ensures.items
          (All-push in_torus c.loop-parent.placings.items c.place_one-placing.result
          c.loop-parent.invariant.in_torus c.place_one-placing.ensures.in_torus);
    }

pub returns-clause-placings : goal.returns-clause-placings
returns-clause-placings c = record {
  placings = c.loop-parent.invariant.placings
      ∙ ap (λ b. b.placings) (board_after-all (torus_numbers c.args.torus.now) c.args.round.now
      c.args.occupants.now c.args.parents.now c.loop-parent.parent-index (omega arith));
  count = omega arith;
  in_torus = c.loop-parent.invariant.in_torus;
}

pub returns-clause-occupants : goal.returns-clause-occupants
returns-clause-occupants c = record {
  occupants = c.loop-parent.invariant.occupants
      ∙ ap (λ b. b.occupants) (board_after-all (torus_numbers c.args.torus.now) c.args.round.now
      c.args.occupants.now c.args.parents.now c.loop-parent.parent-index (omega arith));
  cells = c.loop-parent.invariant.cells;
}
