use Rattle.std.proofs.Common.{◌≡◌, ◌∙◌, ◌*◌, ◌^◌, ap, arith, min}
use Rattle.merit_slices.specs.Merit.{merit_of}
use Rattle.merit_slices.proofs.MeritLemmas.{shifted, merit_of-le, merit_of-positive}
use Rattle.merit_slices.proofs.merits.merit.Goals as goal

pub returns-clause-merit : goal.returns-clause-merit
unfolding merit_of
returns-clause-merit c =
    let power = shifted c.doublings.result c.doublings.ensures.bounded in
    let least : c.from.result ≡ min (min c.args.length c.args.executed) c.args.copied =
    c.from.ensures ∙ c.min-least.ensures ∙ ap (λ n. min n c.args.copied) c.min.ensures in
    rw power (ap (λ n. n * 2 ^ c.doublings.result) least
    ∙ ap (λ n. min (min c.args.length c.args.executed) c.args.copied * 2 ^ n)
    c.doublings.ensures.sum)

pub returns-clause-bounded : goal.returns-clause-bounded
returns-clause-bounded c =
    let power = shifted c.doublings.result c.doublings.ensures.bounded in
    rw power (merit_of-le c.from.result c.doublings.result
    (omega arith) c.doublings.ensures.bounded)

pub returns-clause-positive : goal.returns-clause-positive
returns-clause-positive c length executed copied =
    let power = shifted c.doublings.result c.doublings.ensures.bounded in
    rw power (merit_of-positive c.from.result c.doublings.result (omega arith))
