use Rattle.world_config.proofs.Prelude.{table_get}
use Rattle.world_config.proofs.lookup.found.Goals as goal

pub returns : goal.returns
returns c = table_get c.get.result c.args.name.now c.args.table.now.entries c.get.ensures.value
