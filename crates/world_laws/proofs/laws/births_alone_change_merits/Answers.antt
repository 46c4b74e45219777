use Rattle.world_laws.proofs.Keepings.{life-kept}
use Rattle.world_laws.proofs.laws.births_alone_change_merits.Goals as goal

pub returns : goal.returns
returns c = life-kept
