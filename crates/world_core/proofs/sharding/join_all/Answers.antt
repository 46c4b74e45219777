use Rattle.std.proofs.Common.{◌≡◌, ◌∙◌, [], ◌∷◌, List, All, ap, arith, drop, get_or, rules, subst, sym}
use Rattle.world_core.proofs.Prelude.{into_iter_items, nil_from_length, All-head, All-same, All-tail, IsNumbered, Finished, IsJoined}
use Rattle.world_core.proofs.TwoShardLemmas.{AreTwo, joined-alone, joined-more, two-numbered}
use Rattle.world_core.proofs.sharding.join_all.Goals as goal

pub loop-next-init : goal.loop-next-init
loop-next-init c =
    let first = c.in-Some.first in
    let others = into_iter_items c.into_iter-next-iterator.result in
    let front : c.args.shards.items ≡ first ∷ others = search rules in
    let seats = All-same (λ (one : Finished). one.seat.bank ≡ c.args.bank.now)
    (first ∷ others) c.args.shards.items (sym front) c.requires.seats in
    let numbers = All-same (λ (one : Finished). All (IsNumbered one.seat.seen) one.births)
    (first ∷ others) c.args.shards.items (sym front) c.requires.numbers in
    record {
      joins = λ end is. is;
      bank = All-head (λ (one : Finished). one.seat.bank ≡ c.args.bank.now) first others seats;
      seats = All-tail (λ (one : Finished). one.seat.bank ≡ c.args.bank.now) first others seats;
      numbers = All-head (λ (one : Finished). All (IsNumbered one.seat.seen) one.births) first
          others numbers;
      others = All-tail (λ (one : Finished). All (IsNumbered one.seat.seen) one.births) first others
          numbers;
    }

pub join_two-requires-clause-back : goal.join_two-requires-clause-back
join_two-requires-clause-back c =
    let next = c.in-Some-next.next in
    let others = into_iter_items c.next-in-loop-next.new.self in
    let rest : into_iter_items c.loop-next.next-iterator ≡ next ∷ others = search rules in
    All-head (λ (one : Finished). one.seat.bank ≡ c.args.bank.now) next others
    (subst (All (λ (one : Finished). one.seat.bank ≡ c.args.bank.now)) rest
    c.loop-next.invariant.seats)

pub loop-next-preserved : goal.loop-next-preserved
loop-next-preserved c =
    let next = c.in-Some-next.next in
    let others = into_iter_items c.next-in-loop-next.new.self in
    let rest : into_iter_items c.loop-next.next-iterator ≡ next ∷ others = search rules in
    let before = c.loop-next.invariant in
    let turn = c.in_ok-whole.ensures in
    let two : AreTwo c.loop-next.whole next c.in_ok-whole.whole = record {
      cells = turn.cells;
      standings = turn.standings;
      births = turn.births;
      dead = turn.dead;
      bank = turn.bank;
      share = turn.share;
      front_seen = turn.seen.0;
      back_seen = turn.seen.1;
      own = turn.own;
    } in
    let seats =
    subst (All (λ (one : Finished). one.seat.bank ≡ c.args.bank.now)) rest before.seats in
    let numbers = subst (All (λ (one : Finished). All (IsNumbered one.seat.seen) one.births)) rest
    before.others in
    record {
      joins = λ end is. before.joins end
          (subst (λ all. IsJoined c.loop-next.whole all end) (sym rest)
          (joined-more c.loop-next.whole next c.in_ok-whole.whole end others two is));
      bank = turn.bank ∙ before.bank;
      seats = All-tail (λ (one : Finished). one.seat.bank ≡ c.args.bank.now) next others seats;
      numbers = two-numbered c.calls_number_genotypes.ensures.stay c.loop-next.whole next
          c.in_ok-whole.whole two before.numbers
          (All-head (λ (one : Finished). All (IsNumbered one.seat.seen) one.births) next others
          numbers);
      others = All-tail (λ (one : Finished). All (IsNumbered one.seat.seen) one.births) next others
          numbers;
    }

pub returns : goal.returns
returns c first others is =
    let head = c.in-Some.first in
    let tail = into_iter_items c.into_iter-next-iterator.result in
    let front : c.args.shards.items ≡ head ∷ tail = search rules in
    let none : into_iter_items c.loop-next.next-iterator ≡ [] =
    nil_from_length (into_iter_items c.loop-next.next-iterator)
    (omega (arith, c.in-None-next.ensures.steps.0, c.loop-next.next-iterator.rest.ok.0)) in
    let both : head ∷ tail ≡ first ∷ others = sym front ∙ is in
    let joined : IsJoined head tail c.loop-next.whole =
    c.loop-next.invariant.joins c.loop-next.whole
    (subst (λ all. IsJoined c.loop-next.whole all c.loop-next.whole) (sym none)
    (joined-alone c.loop-next.whole c.loop-next.invariant.numbers)) in
    subst (λ (all : List Finished). IsJoined first all c.loop-next.whole) (ap (drop 1) both)
    (subst (λ (one : Finished). IsJoined one tail c.loop-next.whole)
    (ap (λ (all : List Finished). get_or all 0 head) both) joined)
