use Rattle.std.proofs.Common.{◌∙◌, Some, ap, sym}
use Rattle.world_core.proofs.Prelude.{letters, occupant_genome}
use Rattle.world_core.proofs.CellTableLemmas.{read-slot}
use Rattle.world_core.proofs.cell_table.CellTable.genome_at.Goals as goal

pub returns-in-Some : goal.returns-in-Some
returns-in-Some c =
    ap Some (ap letters c.deref.ensures ∙ c.genome.ensures)
    ∙ sym (ap occupant_genome (read-slot c.self.inside c.args.cell c.requires c.self.invariant
    c.self.view_is c.index.result.now _ c.index.ensures c.in-Some.is))

pub returns-in-None : goal.returns-in-None
returns-in-None c =
    sym (ap occupant_genome (read-slot c.self.inside c.args.cell c.requires c.self.invariant
    c.self.view_is c.index.result.now _ c.index.ensures c.in-None.is))
