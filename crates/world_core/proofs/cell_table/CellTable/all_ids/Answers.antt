use Rattle.std.proofs.Common.{◌∙◌, ◌<◌, ◌++◌, [], ◌∷◌, None, ap, length, map, sym, arith}
use Rattle.world_core.proofs.Prelude.{map_more, take_all, id_of}
use Rattle.world_core.proofs.cell_table.CellTable.all_ids.Goals as goal

pub loop-cell-init : goal.loop-cell-init
loop-cell-init c = record {
  ids = c.in_ok-ids.ensures.items;
  count = c.in_ok-ids.ensures.len;
  room = c.in_ok-ids.ensures.exact;
}

pub loop-cell-preserved : goal.loop-cell-preserved
loop-cell-preserved c =
    let within : c.loop-cell.cell < length c.args.self.now = omega arith in
    record {
      ids = c.push_reserved.ensures.items
          ∙ (λ i. c.loop-cell.invariant.ids i ++ c.id_at.ensures i ∷ [])
          ∙ sym (map_more id_of c.args.self.now c.loop-cell.cell None within);
      count = omega (arith, c.push_reserved.ensures.len, c.loop-cell.invariant.count);
      room = c.push_reserved.ensures.capacity ∙ c.loop-cell.invariant.room;
    }

pub returns : goal.returns
returns c =
    c.loop-cell.invariant.ids
    ∙ ap (map id_of) (take_all c.loop-cell.cell c.args.self.now (omega arith))
