use Rattle.std.proofs.Common.{◌≡◌, ◌∙◌, sym, ap, arith, ◌+◌, ◌-◌, [], append_assoc, append-nil, true, false, length-append, refl, add-zero}
use Rattle.std.specs.Prelude.{unwrap_or}
use Rattle.label_search.proofs.Prelude.{mod-eq_of_lt, common_steps, complement_of, letters_of, is_nop, letter_after, template_after}
use Rattle.label_search.proofs.TemplateLemmas.{letter-next, nops_read-room, next-place, nops-next, nops-end, is_nop-complement}
use Rattle.label_search.proofs.template.complement_after.Goals as goal

pub loop-init : goal.loop-init
unfolding template_after
loop-init c = record {
  place = rw add-zero (sym (mod-eq_of_lt c.requires));
  count = grind (arith, common_steps);
  nops = rw c.none-complement.ensures refl;
}

pub returns-then-not-is_nop-clause-complement : goal.returns-then-not-is_nop-clause-complement
returns-then-not-is_nop-clause-complement c =
    let letters = letters_of c.args.memory.now in
    let read = letter-next c.args.memory.now c.args.ip c.loop.counter _ _ _ c.loop.invariant.place
    c.next_place-place.ensures c.letter_at-letter.ensures in
    let other : is_nop (letter_after letters c.args.ip (c.loop.counter + 1)) ≡ false =
    ap is_nop (sym read) ∙ sym c.is_nop.ensures ∙ c.if-not-is_nop.true in
    let none = nops-end letters c.args.ip c.loop.counter (omega arith) other [] in
    sym (append-nil c.loop.complement) ∙ rw none at c.loop.invariant.nops

pub loop-preserved : goal.loop-preserved
loop-preserved c =
    let letters = letters_of c.args.memory.now in
    let letter = letter_after letters c.args.ip (c.loop.counter + 1) in
    let read : c.letter_at-letter.result ≡ letter =
    letter-next c.args.memory.now c.args.ip c.loop.counter _ _ _ c.loop.invariant.place
    c.next_place-place.ensures c.letter_at-letter.ensures in
    let nop : is_nop letter ≡ true =
    ap is_nop (sym read) ∙ sym c.is_nop.ensures ∙ c.if-not-is_nop.false in
    let rest = nops-next letters c.args.ip c.loop.counter (10 - (c.loop.counter + 1))
    (omega arith) nop in
    let nop-too = is_nop-complement letter nop in
    let other = rw read at c.complement_of.ensures in
    let noted = rw other at c.note.ensures.read
    ∙ nops_read-room c.loop.complement (unwrap_or (complement_of letter) letter) nop-too
    (omega arith) in
    record {
      place = next-place c.args.ip c.loop.counter _ _ _ c.loop.invariant.place
          c.next_place-place.ensures;
      count = rw (noted, length-append) (omega arith);
      nops = rw (noted, append_assoc) (rw rest at c.loop.invariant.nops);
    }
