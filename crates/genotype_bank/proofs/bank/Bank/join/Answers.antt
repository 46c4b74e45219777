use Rattle.std.proofs.Common.{◌++◌, ◌∙◌, rules, arith, sym, ap, subst, ◌≡◌, ◌<◌, ◌+◌, List, ℕ}
use Rattle.genotype_bank.proofs.Prelude.{IsPrefix, get_elem?, Entry, calls_under, own_calls_of, IsPermutation, memo_of}
use Rattle.genotype_bank.proofs.CallLemmas.{own_both}
use Rattle.genotype_bank.proofs.SeatLemmas.{joins, recalls}
use Rattle.genotype_bank.proofs.bank.Bank.join.Goals as goal

pub join_seat-requires : goal.join_seat-requires
join_seat-requires c =
    let a = c.seat.invariant.idle in
    let b = c.other.invariant.idle in (
      search rules,
      search rules,
      ap (λ m. m.1) b,
      search rules,
      joins _ _ _ _ c.seat.invariant.some (ap (λ m. m.0.ticket) a) (ap (λ m. m.0.ticket) b)
          (ap (λ m. m.0.holding) a) (ap (λ m. m.0.holding) b),
    )

pub load-requires : goal.load-requires
load-requires c =
    let e = c.join_seat.ensures.2 in
    let s : c.join_seat.new.seat.me.0.share
    ≡ c.seat.inside.pass.me.0.share + c.other.inside.pass.me.0.share = ap (λ m. m.0.share) e in
    let p : 0 < c.seat.inside.pass.me.0.share = c.seat.invariant.some in (
      search rules,
      search rules,
      recalls _ _ _ (omega arith) (ap (λ m. m.0.ticket) e) (ap (λ m. m.0.holding) e),
    )

pub returns : goal.returns
returns c =
    let e = c.join_seat.ensures.2 in
    let told = c.load.ensures.2 in
    let v = c.seat.inside.pass.me.0 in
    let w = c.other.inside.pass.me.0 in
    let m = c.join_seat.new.seat.me in
    let now = sym (ap (λ m. m.0.seen) told.0) in
    let at0 = ap (λ m. get_elem? m.0.past 0) e in
    let at1 = ap (λ m. get_elem? m.0.past 1) e in
    let a = told.1 0 (memo_of v) at0 in
    let b = told.1 1 (memo_of w) at1 in
    let perm = own_both v.carried w.carried m.0.seen
    (λ n x y. let z : ◌≡◌ {A = ℕ} 0 1 = told.2 0 1 (memo_of v) (memo_of w) n at0 at1 x y in
    omega arith) in
    let left : calls_under v.carried m.0.seen ++ calls_under w.carried m.0.seen
    ≡ own_calls_of c.args.seat ++ own_calls_of c.args.other = (λ i. a.1 i ++ b.1 i)
    ∙ (λ i. own_calls_of (c.seat.view_is i) ++ own_calls_of (c.other.view_is i)) in
    let right : calls_under (v.carried ++ w.carried) m.0.seen
    ≡ calls_under c.load.new.seat.me.0.carried c.load.new.seat.me.0.seen =
    ap (λ x. calls_under x.0.carried m.0.seen) (sym e)
    ∙ sym (ap (λ x. calls_under x.0.carried x.0.seen) told.0) in
    record {
      bank = search rules;
      share = search rules;
      numbers = search rules;
      seen = (
        subst (λ (x : List Entry × List Entry). IsPrefix x.0 x.1)
            (λ i. ((c.seat.view_is i).seen, now i)) a.0,
        subst (λ (x : List Entry × List Entry). IsPrefix x.0 x.1)
            (λ i. ((c.other.view_is i).seen, now i)) b.0,
      );
      once = subst (λ (x : List Entry × List Entry). IsPermutation x.0 x.1)
          (λ i. (left i, right i)) perm;
      own = (
        subst (λ (x : List Entry × List Entry × List ℕ). calls_under x.2 x.1 ≡ calls_under x.2 x.0)
            (λ i. ((c.seat.view_is i).seen, now i, (c.seat.view_is i).numbers)) a.1,
        subst (λ (x : List Entry × List Entry × List ℕ). calls_under x.2 x.1 ≡ calls_under x.2 x.0)
            (λ i. ((c.other.view_is i).seen, now i, (c.other.view_is i).numbers)) b.1,
      );
    }
