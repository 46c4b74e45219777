use Rattle.world_rules.proofs.IdLemmas.{numbered}
use Rattle.world_rules.proofs.laws.ids_are_places.Goals as goal

pub returns : goal.returns
returns c = numbered
