use Rattle.std.proofs.Common.{◌∙◌, ap, ◌+◌, ◌*◌, ◌/◌, ◌%◌, true}
use Rattle.label_search.proofs.Prelude.{Site, executed_in}
use Rattle.label_search.proofs.SiteLemmas.{place-packed, rest-packed, rest-copied}
use Rattle.label_search.proofs.site.Site.copy.Goals as goal

pub invariant_of-self : goal.invariant_of-self
invariant_of-self c =
    let rest = c.self.inside.rest in
    rest-packed c.args.clean (executed_in rest) true _
    (ap (λ index. index + rest / 32 % 2 * 32 + 64) c.index.ensures.index
    ∙ rest-copied rest c.args.clean c.self.invariant)

pub returns : goal.returns
returns c =
    let rest = c.self.inside.rest in
    place-packed c.args.clean (executed_in rest) true _
    (ap (λ index. index + rest / 32 % 2 * 32 + 64) c.index.ensures.index
    ∙ rest-copied rest c.args.clean c.self.invariant) c.args.letter
    ∙ ap (λ (s : Site). record s {
      letter = c.args.letter;
      clean = c.args.clean;
      copied = true;
    }) c.self.view_is
