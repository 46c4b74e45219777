use Rattle.std.proofs.Common.{◌≡◌, ◌++◌, map}
use Rattle.cell_shards.proofs.Prelude.{into_iter_items, SeatValue, newborn_value, born_in, HasInterned, birth_of}
use Rattle.cell_shards.proofs.delivering.deliver_each.Given as goal

abbrev pub invariant-loop-newborn : goal.invariant-loop-newborn
invariant-loop-newborn g l = record {
  births : map birth_of l.births
      ++ map (born_in l.cell) (map newborn_value (into_iter_items l.newborn-iterator))
      ≡ map birth_of l.initial.births
      ++ map (born_in l.cell) (map newborn_value (into_iter_items l.initial.newborn-iterator));
  bank : l.seat.bank ≡ l.initial.seat.bank;
  seat : (start : SeatValue) → HasInterned start l.initial.seat l.initial.births
      → HasInterned start l.seat l.births;
}
