use Rattle.std.proofs.Common.{◌≡◌, All, length, map}
use Rattle.std.specs.Prelude.{fold}
use Rattle.world_core.proofs.Prelude.{into_iter_items, head_values, with_placed, MayStandThere, placed_in, KeepsPast}
use Rattle.world_core.proofs.resuming.restore_all.Given as goal

-- with those that are left the cells come to the same
abbrev pub invariant-loop-resident : goal.invariant-loop-resident
invariant-loop-resident g l = record {
  done : fold with_placed l.scene.cells
      (map (placed_in (head_values l.head)) (into_iter_items l.resident-iterator))
      ≡ fold with_placed l.fn.scene.cells
      (map (placed_in (head_values l.head)) (into_iter_items l.initial.resident-iterator));
  each : All (MayStandThere (head_values l.head))
      (map (placed_in (head_values l.head)) (into_iter_items l.resident-iterator));
  size : length l.scene.cells ≡ length l.fn.scene.cells;
  past : KeepsPast l.fn.scene l.scene;
}
