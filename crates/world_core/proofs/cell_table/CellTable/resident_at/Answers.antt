use Rattle.std.proofs.Common.{refl, get_or}
use Rattle.world_core.proofs.Prelude.{Resident, IsResidentIn}
use Rattle.world_core.proofs.CellTableLemmas.{read-id, read-slot, resident_is}
use Rattle.world_core.proofs.cell_table.CellTable.resident_at.Goals as goal

pub returns-in_ok-image-in-Some : goal.returns-in_ok-image-in-Some
returns-in_ok-image-in-Some c =
    let cell = c.args.cell in
    let id = get_or c.self.inside.ids.items cell 0 in
    let slot = read-slot c.self.inside cell c.requires c.self.invariant c.self.view_is
    c.index.result.now _ c.index.ensures c.in-Some.is in
    let named = read-id c.self.inside cell c.requires c.self.invariant c.self.view_is
    c.index-in-Some.result.now c.index-in-Some.ensures in
    let resident : Resident = record {
      cell = cell;
      id = c.index-in-Some.result.now;
      image = c.in_ok-image-in-Some.field-0;
    } in
    rw (slot, IsResidentIn)
    (resident_is cell id c.in-Some.organism resident refl named
    c.in_ok-image-in-Some.ensures.organism c.in_ok-image-in-Some.ensures.cpu)

pub returns-in-None : goal.returns-in-None
returns-in-None c =
    let slot = read-slot c.self.inside c.args.cell c.requires c.self.invariant c.self.view_is
    c.index.result.now _ c.index.ensures c.in-None.is in
    rw (slot, IsResidentIn) tt
