use Rattle.std.proofs.Common.{◌≡◌, ◌∙◌, ◌≤◌, ◌^◌, ℕ, ap, arith, length, map}
use Rattle.world_core.proofs.Prelude.{length-map, All-same, IfOk-at_ok, merit_or_zero}
use Rattle.world_core.proofs.LifeLemmas.{sum-merits}
use Rattle.world_core.proofs.lives.slices_by.Goals as goal

pub share-requires-clause-sum : goal.share-requires-clause-sum
share-requires-clause-sum c =
    let standings = c.args.standings.now in
    let merits : c.deref.result.now ≡ map merit_or_zero standings =
    c.deref.ensures.value ∙ IfOk-at_ok _ c.in_ok-merits.ensures.0 c.merits_of.ensures in
    sum-merits c.deref.result.now
    (All-same (λ (merit : ℕ). merit ≤ 2 ^ 38) c.deref.result.now (map merit_or_zero standings)
    merits c.requires.merits)
    (omega (arith, ap length merits, length-map standings merit_or_zero, c.requires.cells))
