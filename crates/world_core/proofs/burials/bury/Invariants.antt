use Rattle.std.proofs.Common.{◌≡◌, ◌++◌, map, take}
use Rattle.world_core.proofs.Prelude.{lines_text, departure_by, departure_line}
use Rattle.world_core.proofs.burials.bury.Given as goal

-- the dead so far are among those of the update, and told
abbrev pub invariant-loop-cell : goal.invariant-loop-cell
invariant-loop-cell l =
    let dead = map (departure_by l.lived.ids.items) (take l.cell-index l.lived.died.items) in record {
      scene : l.scene ≡ record l.fn.scene { gone = l.fn.scene.gone ++ map (λ one. one.1) dead };
      text : l.text.items ≡ l.fn.text.items
          ++ lines_text (map (departure_line l.fn.scene.update) dead);
    }
