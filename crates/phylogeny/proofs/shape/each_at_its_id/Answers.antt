use Rattle.std.proofs.Common.{◌≡◌, ◌+◌, ◌<◌, ℕ, List, get_or, length, set, subst, sym, ap, ◌∙◌, arith}
use Rattle.phylogeny.proofs.Prelude.{length-set, get_or_default}
use Rattle.phylogeny.proofs.SlotLemmas.{AreCounted, counted_with, counted_without, here_few}
use Rattle.phylogeny.proofs.shape.each_at_its_id.Goals.{in-Some, in_default}
use Rattle.phylogeny.proofs.shape.each_at_its_id.Goals as goal

pub overflow_add-index_mut : goal.overflow_add-index_mut
overflow_add-index_mut c =
    let id = c.in-Some.id in
    let counts = c.loop-slot.counts.items in
    let few = c.requires.among c.loop-slot.slot-index id c.in-Some.is in
    let there : id < length counts = omega (arith, few, c.loop-slot.invariant.as_many) in
    let value =
    c.index_mut.ensures.value ∙ get_or_default counts id c.index_mut.result.now 0 there in
    omega (
      arith,
      value,
      c.loop-slot.invariant.counts id few,
      here_few id c.args.standing.now,
      c.requires.few,
    )

pub loop-slot-preserved : goal.loop-slot-preserved
loop-slot-preserved c = elim c.match-slot.branch [
  | in-Some w ↦
      let id = w.in-Some.id in
      let old = c.loop-slot.counts.items in
      let few = c.requires.among c.loop-slot.slot-index id w.in-Some.is in
      let there : id < length old = omega (arith, few, c.loop-slot.invariant.as_many) in
      let value : w.index_mut.result.now + 1 ≡ get_or old id 0 + 1 =
      ap (λ (n : ℕ). n + 1) (w.index_mut.ensures.value
      ∙ get_or_default old id w.index_mut.result.now 0 there) in
      let new : c.match-slot.counts.items ≡ set old id (get_or old id 0 + 1) =
      (λ i. (w.counts-is i).items) ∙ ap (set old id) value in
      record {
        as_many =
            ap length new ∙ length-set old id (get_or old id 0 + 1) ∙ c.loop-slot.invariant.as_many;
        counts = subst (λ (counts : List ℕ). AreCounted counts c.args.ids
            (c.loop-slot.slot-index + 1) c.args.standing.now) (sym new)
            (counted_with old c.args.ids c.loop-slot.slot-index id c.args.standing.now
            c.loop-slot.invariant.as_many c.loop-slot-test.true few w.in-Some.is
            c.loop-slot.invariant.counts);
      }
  | in_default w ↦
      rw w.counts-is (record {
        as_many = c.loop-slot.invariant.as_many;
        counts = counted_without c.loop-slot.counts.items c.args.ids c.loop-slot.slot-index
            c.args.standing.now c.loop-slot-test.true w.in_default.is c.loop-slot.invariant.counts;
      })
]
