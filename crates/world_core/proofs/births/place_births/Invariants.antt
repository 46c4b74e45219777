use Rattle.std.proofs.Common.{◌≡◌, ◌+◌, ◌++◌, fold, take, length}
use Rattle.world_core.proofs.Prelude.{scan, lines_text, values_of, birth_line, turns_of, with_newborn, deliveries_in, scene_in}
use Rattle.world_core.proofs.births.place_births.Given as goal

-- the newborns so far stand in their cells and are told
abbrev pub invariant-loop-newborn : goal.invariant-loop-newborn
invariant-loop-newborn l =
    let config = values_of l.config in
    let first = scene_in l.fn.scene in
    let turns = take (length l.yielded)
    (turns_of config first (deliveries_in l.fn.lived)) in
    record {
      scene : scene_in l.scene ≡ fold (with_newborn config) first turns;
      text : l.text.items ≡ l.fn.text.items
          ++ lines_text (scan (with_newborn config) birth_line first turns);
      bank : l.scene.bank ≡ l.fn.scene.bank;
      size : length l.scene.cells ≡ length l.fn.scene.cells;
      everyone : length l.scene.everyone ≡ length l.fn.scene.everyone + length l.yielded;
      first : l.scene.first ≡ l.fn.scene.first;
    }
