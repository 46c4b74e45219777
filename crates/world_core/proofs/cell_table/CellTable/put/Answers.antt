use Rattle.std.proofs.Common.{◌∙◌, List, Option, Some, ap, set}
use Rattle.world_core.proofs.Prelude.{length-set, Occupant}
use Rattle.world_core.proofs.CellTableLemmas.{AreKeptBeside-set, occupants_of-put}
use Rattle.world_core.proofs.cell_table.CellTable.put.Goals as goal

pub invariant_of-self : goal.invariant_of-self
invariant_of-self c =
    AreKeptBeside-set c.self.inside.organisms.items c.self.inside.ids.items
    (set c.self.inside.ids.items c.args.cell c.args.id) c.self.inside.standings.items c.args.cell
    (Some c.args.organism) (Some c.standing.result) c.self.invariant
    (length-set c.self.inside.ids.items c.args.cell c.args.id) (ap Some c.standing.ensures)

pub returns : goal.returns
returns c =
    occupants_of-put c.self.inside.organisms.items c.self.inside.ids.items c.args.cell c.args.id
    c.args.organism c.self.invariant.long
    ∙ ap (λ (cells : List (Option Occupant)). set cells c.args.cell
    (Some (record { id = c.args.id; organism = c.args.organism }))) c.self.view_is
