use Rattle.lineage_log.proofs.KeepingLemmas.{line_step}
use Rattle.lineage_log.proofs.laws.lines_come_from_parents.Goals as goal

pub returns : goal.returns
returns c links id link older is = line_step links id link older is
