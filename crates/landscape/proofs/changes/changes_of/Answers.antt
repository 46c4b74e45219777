use Rattle.landscape.proofs.ChangeLemmas.{place_more}
use Rattle.landscape.proofs.changes.changes_of.Goals as goal

pub loop-at-preserved : goal.loop-at-preserved
loop-at-preserved c =
    place_more c.args.genome.now c.loop-at.at c.loop-at.changes.items
    c.push_changes.new.changes.items _ c.loop-at-test.true c.in_ok-push_changes.ensures
    c.loop-at.invariant
