use Rattle.label_search.proofs.Prelude.{same_from_decides}
use Rattle.label_search.proofs.PackedLemmas.{packed-same}
use Rattle.label_search.proofs.template.Template.equals.Goals as goal

pub returns-clause-value : goal.returns-clause-value
returns-clause-value c =
    same_from_decides _ _ (packed-same _ _ _ _ c.self.invariant c.other.invariant c.self.view_is
    c.other.view_is) (c.one_index.ensures.list c.args.self.now c.args.other.now)

pub returns-clause-same : goal.returns-clause-same
returns-clause-same c =
    packed-same _ _ _ _ c.self.invariant c.other.invariant c.self.view_is c.other.view_is
