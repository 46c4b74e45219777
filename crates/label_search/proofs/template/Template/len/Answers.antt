use Rattle.std.proofs.Common.{arith, subst}
use Rattle.label_search.proofs.Prelude.{IsTemplate}
use Rattle.label_search.proofs.PackedLemmas.{newest-few, template-packed}
use Rattle.label_search.proofs.template.Template.len.Goals as goal

pub returns-clause-few : goal.returns-clause-few
returns-clause-few c = omega (arith, c.count_digits.ensures, newest-few 10 c.self.inside.packed)

pub returns-clause-template : goal.returns-clause-template
returns-clause-template c = subst IsTemplate c.self.view_is (template-packed c.self.inside.packed)
