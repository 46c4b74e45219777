use Rattle.std.proofs.Common.{◌∙◌, ap}
use Rattle.label_search.proofs.Prelude.{nops_read}
use Rattle.label_search.proofs.PackedLemmas.{packed-read, nops-read, template-packed}
use Rattle.label_search.proofs.template.Template.note.Goals as goal

pub invariant_of-self : goal.invariant_of-self
invariant_of-self c = rw c.packed_after-self-inside.ensures
    (packed-read c.self.inside.packed c.args.letter c.self.invariant)

pub returns-clause-read : goal.returns-clause-read
returns-clause-read c = rw c.packed_after-self-inside.ensures
    (nops-read c.self.inside.packed c.args.letter c.self.invariant
    ∙ ap (λ nops. nops_read nops c.args.letter) c.self.view_is)

pub returns-clause-template : goal.returns-clause-template
returns-clause-template c = template-packed _
