use Rattle.std.proofs.Common.{◌≡◌, ◌∙◌, sym, ap, subst, arith, Ok, List, Option, IsNone, ◌↔◌}
use Rattle.mutations.proofs.Prelude.{common_steps, letters, Letter, written_in, written_of}
use Rattle.mutations.proofs.BirthLemmas.{child_of-made, written_of-none}
use Rattle.mutations.proofs.dividing.divide_errors.Goals as goal

pub returns-clause-base : goal.returns-clause-base
returns-clause-base c =
    subst (λ (o : Option (List Letter)). IsNone o
    ↔ (letters c.args.clean.now ≡ letters c.args.parent.now)) (sym c.in_ok-base.ensures)
    (written_of-none c.one_index.ensures.letter (letters c.args.clean.now)
    (letters c.args.parent.now))

pub returns-clause-child : goal.returns-clause-child
returns-clause-child c =
    let made : c.in-Ok.text.items ≡ letters c.in-Ok-from_letters.genome =
    grind (arith, common_steps) in
    child_of-made c.one_index.ensures.letter (letters c.args.parent.now) c.letters.result.now
    c.in-Ok.text.items (written_in c.in_ok-base.base) _ c.in-Ok.changes _ _
    (c.in_ok-base.ensures ∙ ap
    (λ (clean : List Letter). written_of clean (letters c.args.parent.now))
    (sym c.letters.ensures.letters)) c.in-Ok.ensures.passed
    ∙ ap Ok made
