use Rattle.std.proofs.Common.{◌∙◌, ap, true}
use Rattle.label_search.proofs.Prelude.{Site, clean_in, copied_in}
use Rattle.label_search.proofs.SiteLemmas.{place-packed, rest-packed, rest-marked}
use Rattle.label_search.proofs.site.Site.mark_executed.Goals as goal

pub invariant_of-self : goal.invariant_of-self
invariant_of-self c =
    let rest = c.self.inside.rest in
    rest-packed (clean_in rest) true (copied_in rest) _ (rest-marked rest c.self.invariant)

pub returns : goal.returns
returns c =
    let rest = c.self.inside.rest in
    place-packed (clean_in rest) true (copied_in rest) _ (rest-marked rest c.self.invariant)
    c.self.inside.letter ∙ ap (λ (s : Site). record s { executed = true }) c.self.view_is
