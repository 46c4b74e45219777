-- A finished shard behind another, as one.
use Rattle.std.proofs.Common.{◌≡◌, ◌∙◌, refl, sym, ◌+◌, List, [], ◌∷◌, ◌++◌, append-nil, append_assoc, arith}
use Rattle.world_core.proofs.Prelude.{All, IsPermutation, All-append, IsPermutation-append_left, IsPermutation-refl, IsPermutation-trans, sum_by-cons, IsPrefix, IsNumbered, genome_in, Delivered, Finished, genotypes_of, own_calls_of, Entry, IsJoined, IsPrefix-trans, slice_get-begins}
use Rattle.world_core.proofs.JoinLemmas.{calls_in}

-- a number stays in a longer history
number-stays : ((early history : List Entry) → IsPrefix early history
    → IsPrefix (genotypes_of early) (genotypes_of history))
    → (early history : List Entry) (d : Delivered) → IsPrefix early history → IsNumbered early d
    → IsNumbered history d
number-stays stay early history d longer number = record {
  place = slice_get-begins (genotypes_of early) (genotypes_of history) d.handle.number (genome_in d)
      (stay early history longer) number.place;
  small = number.small;
}

-- two shards as one
pub record AreTwo (front back whole : Finished) : Type 0 where
  pub cells : whole.cells ≡ front.cells ++ back.cells
  pub standings : whole.standings ≡ front.standings ++ back.standings
  pub births : whole.births ≡ front.births ++ back.births
  pub dead : whole.dead ≡ front.dead ++ back.dead
  pub bank : whole.seat.bank ≡ front.seat.bank
  pub share : whole.seat.share ≡ front.seat.share + back.seat.share
  pub front_seen : IsPrefix front.seat.seen whole.seat.seen
  pub back_seen : IsPrefix back.seat.seen whole.seat.seen
  pub own : IsPermutation (own_calls_of front.seat ++ own_calls_of back.seat)
      (own_calls_of whole.seat)

-- the newborns of both have their numbers
pub two-numbered : ((early history : List Entry) → IsPrefix early history
    → IsPrefix (genotypes_of early) (genotypes_of history)) → (front back whole : Finished)
    → AreTwo front back whole → All (IsNumbered front.seat.seen) front.births
    → All (IsNumbered back.seat.seen) back.births → All (IsNumbered whole.seat.seen) whole.births
two-numbered stay front back whole two first second =
    rw two.births (All-append (IsNumbered whole.seat.seen) front.births back.births
    (λ k d within.
    number-stays stay front.seat.seen whole.seat.seen _ two.front_seen (first k d within))
    (λ k d within.
    number-stays stay back.seat.seen whole.seat.seen _ two.back_seen (second k d within)))

-- a shard alone
pub joined-alone : (whole : Finished) → All (IsNumbered whole.seat.seen) whole.births
    → IsJoined whole [] whole
joined-alone whole numbers = record {
  cells = sym (append-nil whole.cells);
  standings = sym (append-nil whole.standings);
  births = sym (append-nil whole.births);
  dead = sym (append-nil whole.dead);
  bank = refl;
  share = omega arith;
  seen = ([], append-nil whole.seat.seen);
  numbers = numbers;
  own = rw append-nil (IsPermutation-refl (own_calls_of whole.seat));
}

-- what joins others behind two joins the second and the others behind the first
pub joined-more : (front back two end : Finished) (others : List Finished) → AreTwo front back two
    → IsJoined two others end → IsJoined front (back ∷ others) end
joined-more front back two end others are joined = record {
  cells = rw (joined.cells, are.cells, append_assoc);
  standings = rw (joined.standings, are.standings, append_assoc);
  births = rw (joined.births, are.births, append_assoc);
  dead = rw (joined.dead, are.dead, append_assoc);
  bank = joined.bank ∙ are.bank;
  share = omega (
    arith,
    joined.share,
    are.share,
    sum_by-cons (λ (one : Finished). one.seat.share) back others,
  );
  seen = IsPrefix-trans front.seat.seen two.seat.seen end.seat.seen are.front_seen joined.seen;
  numbers = joined.numbers;
  own = rw (← append_assoc (own_calls_of front.seat) (own_calls_of back.seat) (calls_in others))
      (IsPermutation-trans ((own_calls_of front.seat ++ own_calls_of back.seat) ++ calls_in others)
      (own_calls_of two.seat ++ calls_in others) (own_calls_of end.seat)
      (IsPermutation-append_left (calls_in others)
      (own_calls_of front.seat ++ own_calls_of back.seat) (own_calls_of two.seat) are.own)
      joined.own);
}
