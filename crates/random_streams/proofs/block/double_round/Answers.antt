use Rattle.std.proofs.Common.{rules}
use Rattle.random_streams.proofs.RowLemmas.{rounds}
use Rattle.random_streams.proofs.block.double_round.Goals as goal

pub returns : goal.returns
returns c =
    rounds (c.args.a, c.args.b, c.args.c, c.args.d) c.quarter_rounds.result c.quarter_rounds-2.result
    (search rules) (search rules) c.quarter_rounds.ensures c.quarter_rounds-2.ensures
