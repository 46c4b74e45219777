use Rattle.divide_rules.proofs.VerdictLemmas.{viable}
use Rattle.divide_rules.proofs.laws.viable_divides_keep_the_rules.Goals as goal

pub returns : goal.returns
returns c = viable
