use Rattle.std.proofs.Common.{arith, ◌≡◌, ◌-◌}
use Rattle.label_search.proofs.PackedLemmas.{count-none, none-left, count-more}
use Rattle.label_search.proofs.template.count_digits.Goals as goal

pub returns-then-rest-eq0 : goal.returns-then-rest-eq0
returns-then-rest-eq0 c =
    let rest = rw c.if-rest-eq0.true at c.loop-count.invariant in
    omega (arith, rest, count-none (10 - c.loop-count.count))

pub loop-count-preserved : goal.loop-count-preserved
loop-count-preserved c =
    let more = count-more c.loop-count.count c.loop-count.rest (omega arith) (omega arith) in
    omega (arith, more, c.loop-count.invariant)

pub returns : goal.returns
returns c =
    let all : c.loop-count.count ≡ 10 = omega arith in
    let rest = rw all at c.loop-count.invariant in
    omega (arith, rest, none-left c.loop-count.rest)
