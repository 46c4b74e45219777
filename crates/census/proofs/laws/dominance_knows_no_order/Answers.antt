use Rattle.census.proofs.MemberLemmas.{dominant-same}
use Rattle.census.proofs.laws.dominance_knows_no_order.Goals as goal

pub returns : goal.returns
returns c = dominant-same c.one_index.ensures.letter
