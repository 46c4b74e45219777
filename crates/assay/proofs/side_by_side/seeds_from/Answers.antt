use Rattle.std.proofs.Common.{◌+◌, arith, refl}
use Rattle.std.proofs.lemmas.Iterator.{YieldsList-from_range, items_from_collect}
use Rattle.assay.proofs.side_by_side.seeds_from.Goals as goal

pub returns-clause-seeds : goal.returns-clause-seeds
returns-clause-seeds c =
    items_from_collect c.collect.result c.collect.ensures.ran
    (YieldsList-from_range c.args.first (c.args.first + c.from.result) c.args.count refl
    (omega (arith, c.from.ensures)))
