use Rattle.std.proofs.Common.{◌∙◌, ◌++◌, [], ◌∷◌, None, ap, arith}
use Rattle.std.proofs.lemmas.List.{replicate_more}
use Rattle.world_core.proofs.cell_table.empty_cells.Goals as goal

pub loop-preserved : goal.loop-preserved
loop-preserved g c =
    let before = c.loop.invariant in
    record {
      cells = c.push_reserved.ensures.items ∙ ap (λ cells. cells ++ None ∷ []) before.cells
          ∙ replicate_more c.loop.counter None;
      many = omega (arith, c.push_reserved.ensures.len, before.many);
      room = c.push_reserved.ensures.capacity ∙ before.room;
    }
