use Rattle.world_rules.proofs.LineLemmas.{line_of_each}
use Rattle.world_rules.proofs.laws.lines_come_from_parents.Goals as goal

pub returns : goal.returns
returns c = line_of_each
