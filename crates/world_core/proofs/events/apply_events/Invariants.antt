use Rattle.std.proofs.Common.{◌≡◌, ◌+◌, ◌≤◌, length}
use Rattle.world_core.proofs.Prelude.{Grows, scene_in}
use Rattle.world_core.proofs.EventLemmas.{IsOnTheWay}
use Rattle.world_core.proofs.events.apply_events.Given as goal

-- the events so far have happened and are told
abbrev pub invariant-loop-at : goal.invariant-loop-at
invariant-loop-at g l = record {
  way : IsOnTheWay l.config l.update l.at (scene_in l.fn.scene) (scene_in l.scene) l.fn.text.items
      l.text.items;
  size : length l.scene.cells ≡ length l.fn.scene.cells;
  everyone : length l.scene.everyone ≤ length l.fn.scene.everyone + l.at;
  first : l.scene.first ≡ l.fn.scene.first;
  bank : Grows l.fn.scene.bank l.scene.bank l.fn.scene.everyone l.scene.everyone;
}
