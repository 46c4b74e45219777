use Rattle.std.proofs.Common.{◌≡◌, ◌∙◌, sym, arith, ◌+◌, ◌-◌, ◌++◌, [], ◌∷◌, append_assoc, true, false, length-append, refl, add-zero}
use Rattle.label_search.proofs.Prelude.{mod-eq_of_lt, common_steps, is_nop, letter_after, template_after}
use Rattle.std.proofs.lemmas.List.Elements.{All-nil}
use Rattle.label_search.proofs.TemplateLemmas.{nops_read-room, next-place, nops-next, nops-end}
use Rattle.label_search.proofs.template.template_after.Goals as goal

pub loop-init : goal.loop-init
unfolding template_after
loop-init c = record {
  place = rw add-zero (sym (mod-eq_of_lt c.requires));
  count = grind (arith, common_steps);
  template = rw c.none-template.ensures (record { few = omega arith; nops = All-nil _ });
  nops = rw c.none-template.ensures refl;
}

pub returns-then-not-is_nop-clause-nops : goal.returns-then-not-is_nop-clause-nops
returns-then-not-is_nop-clause-nops c =
    let next = next-place c.args.ip c.loop.counter _ _ _ c.loop.invariant.place
    c.next_place-place.ensures in
    let other : is_nop (letter_after c.args.memory.now c.args.ip (c.loop.counter + 1)) ≡ false =
    rw (← next) (sym c.is_nop.ensures ∙ c.if-not-is_nop.true) in
    sym (nops-end c.args.memory.now c.args.ip c.loop.counter (omega arith) other c.loop.template)
    ∙ c.loop.invariant.nops

pub returns-then-not-is_nop-clause-template : goal.returns-then-not-is_nop-clause-template
returns-then-not-is_nop-clause-template c = c.loop.invariant.template

pub returns-clause-template : goal.returns-clause-template
returns-clause-template c = c.loop.invariant.template

pub loop-preserved : goal.loop-preserved
loop-preserved c =
    let next = next-place c.args.ip c.loop.counter _ _ _ c.loop.invariant.place
    c.next_place-place.ensures in
    let letter = letter_after c.args.memory.now c.args.ip (c.loop.counter + 1) in
    let nop : is_nop letter ≡ true = rw (← next) (sym c.is_nop.ensures ∙ c.if-not-is_nop.false) in
    let rest = nops-next c.args.memory.now c.args.ip c.loop.counter (10 - (c.loop.counter + 1))
    (omega arith) nop in
    let noted : c.note.new.self ≡ c.loop.template ++ letter ∷ [] =
    rw next at c.note.ensures.read ∙ nops_read-room c.loop.template letter nop (omega arith) in
    record {
      place = next;
      count = rw (noted, length-append c.loop.template (letter ∷ [])) (omega arith);
      template = c.note.ensures.template;
      nops = rw (noted, append_assoc) (rw rest at c.loop.invariant.nops);
    }
