use Rattle.label_search.proofs.SiteLemmas.{place-packed, rest-packed}
use Rattle.label_search.proofs.site.Site.new.Goals as goal

pub invariant_of-result : goal.invariant_of-result
invariant_of-result c =
    rest-packed c.args.clean c.args.executed c.args.copied _ c.rest_of.ensures

pub returns : goal.returns
returns c =
    place-packed c.args.clean c.args.executed c.args.copied _ c.rest_of.ensures c.args.letter
