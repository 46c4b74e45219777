use Rattle.std.proofs.Common.{◌∙◌, ap, sym}
use Rattle.world_core.proofs.Prelude.{occupants_of}
use Rattle.world_core.proofs.CellTableLemmas.{AreKeptBeside-none, occupants_of-none}
use Rattle.world_core.proofs.cell_table.CellTable.none.Goals as goal

pub invariant_of-result : goal.invariant_of-result
invariant_of-result c =
    AreKeptBeside-none c.args.cells c.in_ok-empty_cells.field-0.items c.in_ok-vec.field-0.items
    c.in_ok-empty_cells-2.field-0.items c.in_ok-empty_cells.ensures
    (sym c.in_ok-vec.field-0.ok.0 ∙ c.in_ok-vec.ensures.len) c.in_ok-empty_cells-2.ensures

pub returns : goal.returns
returns c =
    ap (λ os. occupants_of os c.in_ok-vec.field-0.items) c.in_ok-empty_cells.ensures
    ∙ occupants_of-none c.args.cells c.in_ok-vec.field-0.items
    (sym c.in_ok-vec.field-0.ok.0 ∙ c.in_ok-vec.ensures.len)
