use Rattle.std.proofs.Common.{ap, length, arith}
use Rattle.world_core.proofs.CellTableLemmas.{occupants_of-length}
use Rattle.world_core.proofs.cell_table.CellTable.len.Goals as goal

pub returns : goal.returns
returns c =
    omega (
      arith,
      c.len.ensures,
      c.self.inside.organisms.ok.0,
      occupants_of-length c.self.inside.organisms.items c.self.inside.ids.items
          c.self.invariant.long,
      ap length c.self.view_is,
    )
