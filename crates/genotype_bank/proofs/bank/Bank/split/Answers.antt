use Rattle.std.proofs.Common.{rules, arith, refl, sym, ap, ◌∙◌, subst, ◌≡◌, ◌≤◌, ◌-◌}
use Rattle.genotype_bank.proofs.Prelude.{IsIdleSeat, kept_half}
use Rattle.genotype_bank.proofs.SeatLemmas.{splits}
use Rattle.genotype_bank.proofs.bank.Bank.split.Goals as goal

pub split_seat-pass-requires : goal.split_seat-pass-requires
split_seat-pass-requires c =
    let is = c.seat.invariant.idle in (
      search rules,
      search rules,
      splits _ c.seat.inside.pass.me.0 (search rules) (ap (λ m. m.0.ticket) is)
          (ap (λ m. m.0.holding) is),
    )

pub invariant_of-seat : goal.invariant_of-seat
invariant_of-seat c =
    let v = c.seat.inside.pass.me.0 in
    let two : 2 ≤ v.share = search rules in
    let most : v.share ≤ 4294967296 = c.seat.invariant.most in
    subst IsIdleSeat (sym (c.split_seat-pass.ensures.2
    ∙ ap (λ l. (kept_half v, l)) (ap (λ m. m.1) c.seat.invariant.idle)))
    record {
      idle = refl;
      some = omega arith;
      most = omega arith;
      owns = λ w. absurd (let h : v.share - 1 ≡ 4294967296 = w in omega arith);
    }
