-- A seat that interns one newborn more.
use Rattle.std.proofs.Common.{◌≡◌, ◌∙◌, ap, refl, sym, subst, ℕ, All, List, [], ◌∷◌, ◌++◌, map, append-nil, append_assoc}
use Rattle.cell_shards.proofs.Prelude.{map-append, All-nil, All-push, All-weaker, entry, genotypes_of, MakesCall, SeatValue, own_calls_of, NewbornValue, HasInterned, IsNumbered, birth_of, call_for, genome_in}
use mathlib.Core.List.{IsPrefix}
use Rattle.genotype_bank.specs.declared.view.Call.{Call}
use Rattle.genotype_bank.specs.declared.view.Entry.{Entry}
use Rattle.genotype_bank.proofs.HistoryLemmas.{IsPrefix-trans}
use Rattle.genotype_bank.proofs.DifferentLemmas.{slice_get-begins}
use Rattle.cell_shards.specs.declared.delivered.Delivered.{Delivered}

-- one newborn more, of those that are left
pub births-more : (deliveries next : List Delivered) (d : Delivered) (birth : ℕ × NewbornValue)
    (rest left : List (ℕ × NewbornValue)) → next ≡ deliveries ++ d ∷ [] → birth_of d ≡ birth
    → left ≡ birth ∷ rest → map birth_of next ++ rest ≡ map birth_of deliveries ++ left
births-more deliveries next d birth rest left is same taken =
    rw (is, taken, ← same, map-append birth_of deliveries (d ∷ []), append_assoc)

-- before any newborn
pub HasInterned-none : (seat : SeatValue) (births : List Delivered) → births ≡ []
    → HasInterned seat seat births
HasInterned-none seat births none = record {
  bank = refl;
  share = refl;
  seen = ([], append-nil seat.seen);
  calls = [];
  own = sym (append-nil (own_calls_of seat));
  interned = sym (ap (map call_for) none);
  numbers = subst (All (IsNumbered seat.seen)) (sym none) (All-nil (IsNumbered seat.seen));
}

module _ (seen : (before after : SeatValue) (call : Call) → MakesCall before after call
    → IsPrefix before.seen after.seen)
    (stay : (early history : List Entry) → IsPrefix early history
    → IsPrefix (genotypes_of early) (genotypes_of history)) where
  -- one newborn more
  pub HasInterned-more : (old now new : SeatValue) (births next : List Delivered) (d : Delivered)
      → HasInterned old now births
      → new.bank ≡ now.bank → new.share ≡ now.share → MakesCall now new (call_for d)
      → IsNumbered new.seen d → next ≡ births ++ d ∷ [] → HasInterned old new next
  HasInterned-more old now new births next d so_far bank share made numbered is =
      let begins : IsPrefix now.seen new.seen = seen now new (call_for d) made in
      let last = entry made.number (call_for d) in
      rw is (record {
        bank = bank ∙ so_far.bank;
        share = share ∙ so_far.share;
        seen = IsPrefix-trans old.seen now.seen new.seen so_far.seen begins;
        calls = so_far.calls ++ last ∷ [];
        own = made.own ∙ rw (so_far.own, append_assoc);
        interned = map-append (λ (call : Entry). call.call) so_far.calls (last ∷ [])
            ∙ rw (so_far.interned, map-append call_for births (d ∷ []));
        numbers = All-push (IsNumbered new.seen) births d
            (All-weaker (IsNumbered now.seen) (IsNumbered new.seen)
            (λ other at. record {
              place = slice_get-begins (genotypes_of now.seen) (genotypes_of new.seen)
                  other.handle.number (genome_in other) (stay now.seen new.seen begins) at.place;
              small = at.small;
            }) births so_far.numbers)
            numbered;
      })
