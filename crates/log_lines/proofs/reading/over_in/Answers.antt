use Rattle.std.proofs.Common.{None}
use Rattle.log_lines.proofs.FrontLemmas.{dash_first, no_first}
use Rattle.log_lines.proofs.reading.over_in.Goals as goal

pub returns-in-empty : goal.returns-in-empty
returns-in-empty c = no_first c.args.bytes.now c.in-empty.len_below

pub returns-in-None : goal.returns-in-None
returns-in-None c = dash_first c.args.bytes.now None c.in-len1-up.len_at_least c.if-first-eq45.true
    c.in-None.ensures
