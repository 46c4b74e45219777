use Rattle.std.proofs.Common.{rules, ◌≡◌, ◌∷◌, arith}
use Rattle.cell_shards.proofs.Prelude.{into_iter_items, All-same, HasRun}
use Rattle.std.proofs.lemmas.List.Sorted.{All-permutation}
use Rattle.cell_shards.proofs.FinishLemmas.{AreFinished-first, Gathered-more}
use Rattle.cell_shards.proofs.gathering.in_order.Goals as goal

pub loop-one-preserved : goal.loop-one-preserved
loop-one-preserved c =
    let left = into_iter_items c.loop-one.one-iterator in
    let next : left ≡ c.in-Some.one ∷ into_iter_items c.next.new.self = search rules in
    Gathered-more c.args.pool.now.jobs _ left _ c.in-Some.one c.loop-one.all.items
    c.push.new.self.items next (omega arith) c.in_ok-push.ensures.items c.loop-one.invariant

pub returns : goal.returns
returns c round run =
    let jobs = c.args.pool.now.jobs in
    AreFinished-first round jobs c.loop-one.all.items (omega arith)
    (c.loop-one.invariant round
    (All-same (HasRun round jobs) _ _ c.into_iter-one-iterator.ensures.into_iter_gives.0
    (All-permutation (HasRun round jobs) _ _ c.sort_unstable_by_key.ensures.permutation run))).1
