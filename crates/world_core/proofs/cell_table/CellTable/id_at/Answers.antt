use Rattle.std.proofs.Common.{◌∙◌, Some, ap, sym}
use Rattle.world_core.proofs.Prelude.{id_of}
use Rattle.world_core.proofs.CellTableLemmas.{read-id, read-slot}
use Rattle.world_core.proofs.cell_table.CellTable.id_at.Goals as goal

pub returns-in-Some : goal.returns-in-Some
returns-in-Some c =
    ap Some (read-id c.self.inside c.args.cell c.requires c.self.invariant c.self.view_is
    c.index-in-Some.result.now c.index-in-Some.ensures)
    ∙ sym (ap id_of (read-slot c.self.inside c.args.cell c.requires c.self.invariant
    c.self.view_is c.index.result.now _ c.index.ensures c.in-Some.is))

pub returns-in-None : goal.returns-in-None
returns-in-None c =
    sym (ap id_of (read-slot c.self.inside c.args.cell c.requires c.self.invariant
    c.self.view_is c.index.result.now _ c.index.ensures c.in-None.is))
