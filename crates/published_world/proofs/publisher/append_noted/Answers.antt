use Rattle.std.proofs.Common.{◌∙◌, Some, ap, sym}
use Rattle.published_world.specs.PublicationHistory.{last_of}
use Rattle.published_world.proofs.AppendLemmas.{at_ok}
use Rattle.published_world.proofs.PublicationLemmas.{last_of_more}
use Rattle.published_world.proofs.publisher.append_noted.Goals as goal

pub sight-sight-requires : goal.sight-sight-requires
sight-sight-requires g c =
    let more = at_ok c.append-history.result.1 _ c.if-is_err.ensures.negation
    c.append-history.ensures.ok in
    ap last_of more ∙ last_of_more c.args.history c.args.next.value
    ∙ ap (λ p. Some p) (sym c.requires.last)
