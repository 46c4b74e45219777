use Rattle.std.proofs.Common.{◌∙◌, List, None, Option, ap, refl, set, sym}
use Rattle.world_core.proofs.Prelude.{organism_in, Occupant}
use Rattle.world_core.proofs.CellTableLemmas.{AreKeptBeside-set, occupants_of-remove, organism-with, read-slot}
use Rattle.world_core.proofs.cell_table.CellTable.take.Goals as goal

pub invariant_of-self : goal.invariant_of-self
invariant_of-self c =
    rw c.take.ensures.after (AreKeptBeside-set c.self.inside.organisms.items
    c.self.inside.ids.items c.self.inside.ids.items c.self.inside.standings.items c.args.cell None
    None c.self.invariant refl refl)

pub returns-clause-after : goal.returns-clause-after
returns-clause-after c =
    rw c.take.ensures.after (occupants_of-remove c.self.inside.organisms.items
    c.self.inside.ids.items c.args.cell
    ∙ ap (λ (cells : List (Option Occupant)). set cells c.args.cell None) c.self.view_is)

pub returns-clause-who : goal.returns-clause-who
returns-clause-who c =
    c.take.ensures.value
    ∙ sym (ap organism_in (read-slot c.self.inside c.args.cell c.requires c.self.invariant
    c.self.view_is c.index_mut-2.result.now _ c.index_mut-2.ensures.value refl)
    ∙ organism-with _ _)
