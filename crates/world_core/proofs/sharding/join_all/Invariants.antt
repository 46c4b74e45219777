use Rattle.std.proofs.Common.{◌≡◌, All}
use Rattle.world_core.proofs.Prelude.{into_iter_items, IsNumbered, Finished, IsJoined}
use Rattle.world_core.proofs.sharding.join_all.Given as goal

-- what joins those to come behind the whole so far joins all
abbrev pub invariant-loop-next : goal.invariant-loop-next
invariant-loop-next l = record {
  joins : (end : Finished) → IsJoined l.whole (into_iter_items l.next-iterator) end
      → IsJoined l.initial.whole (into_iter_items l.initial.next-iterator) end;
  bank : l.whole.seat.bank ≡ l.bank;
  seats : All (λ one. one.seat.bank ≡ l.bank) (into_iter_items l.next-iterator);
  numbers : All (IsNumbered l.whole.seat.seen) l.whole.births;
  others : All (λ one. All (IsNumbered one.seat.seen) one.births) (into_iter_items l.next-iterator);
}
