use Rattle.std.proofs.Common.{◌≡◌, ◌-◌, ◌++◌, take, length}
use Rattle.world_core.proofs.Prelude.{lines_text, scan, filter_map, cleared_line, cells_from, with_death, with_deaths, scene_in}
use Rattle.world_core.proofs.events.clear.Given as goal

-- who stands in the cells so far is dead and told
abbrev pub invariant-loop-cell : goal.invariant-loop-cell
invariant-loop-cell l = record {
  scene : scene_in l.scene
      ≡ with_deaths (scene_in l.fn.scene) (take (l.cell - l.first) (cells_from l.first l.last));
  text : l.text.items ≡ l.fn.text.items
      ++ lines_text (filter_map (λ line. line)
      (scan with_death cleared_line (scene_in l.fn.scene)
      (take (l.cell - l.first) (cells_from l.first l.last))));
  kept : (length l.scene.cells ≡ length l.fn.scene.cells)
      × (l.scene.everyone ≡ l.fn.scene.everyone) × (l.scene.first ≡ l.fn.scene.first)
      × (l.scene.bank ≡ l.fn.scene.bank);
}
