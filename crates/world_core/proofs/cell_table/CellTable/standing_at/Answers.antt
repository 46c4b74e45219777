use Rattle.world_core.proofs.CellTableLemmas.{read-standing}
use Rattle.world_core.proofs.cell_table.CellTable.standing_at.Goals as goal

pub returns : goal.returns
returns c =
    read-standing c.self.inside c.args.cell c.requires c.self.invariant c.self.view_is
    c.index.result.now c.index.ensures
