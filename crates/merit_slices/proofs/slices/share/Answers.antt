use Rattle.std.proofs.Common.{◌*◌, ◌≡◌, ◌<◌, ◌≤◌, ◌^◌, length, sum, rules, arith}
use Rattle.std.proofs.Math.Nat.{mul-le-mul}
use Rattle.merit_slices.proofs.SliceLemmas.{shares_of-few, steps-few, sum-shares_of}
use Rattle.merit_slices.proofs.slices.share.Goals as goal

pub returns-clause-few : goal.returns-clause-few
returns-clause-few c cell =
    let steps : c.from.result * c.living.result < 2 ^ 27 =
    steps-few c.from.result c.living.result (omega arith) (omega arith) in
    rw c.deal.ensures (omega
    (arith, shares_of-few c.args.merits.now (c.from.result * c.living.result) cell))

pub returns-clause-total : goal.returns-clause-total
returns-clause-total c =
    let all : c.sum-all.result ≡ sum c.args.merits.now = search rules in
    let some : 0 < sum c.args.merits.now = omega (arith, all, c.if-all-eq0.false) in
    let wide : c.from.result ≡ c.args.average = search rules in
    let most : c.from.result * c.living.result ≤ c.args.average * length c.args.merits.now =
    mul-le-mul (omega (arith, wide)) (omega arith) in
    let dealt = sum-shares_of c.args.merits.now (c.from.result * c.living.result) some in
    rw c.deal.ensures (omega (arith, dealt, most))
