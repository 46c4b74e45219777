use Rattle.std.proofs.Common.{[], unwrap_or, ap, ◌∙◌}
use Rattle.published_world.proofs.PublicationLemmas.{look_never_older, look_of}
use Rattle.published_world.proofs.observer.Observer.look.Goals as goal

pub returns-clause-never_older : goal.returns-clause-never_older
returns-clause-never_older g c =
    let same = ap (λ o. unwrap_or o []) c.in-Some.ensures.value ∙ c.self.view_is in
    let looked = c.look-sight.ensures in
    rw (← same) (look_never_older g.P.Picture.number g.P.Picture.of c.look-sight.result.1
    (λ p. p.value) _ _ looked.later looked.last looked.history)

pub returns-clause-of : goal.returns-clause-of
returns-clause-of g c =
    let same = ap (λ o. unwrap_or o []) c.in-Some.ensures.value ∙ c.self.view_is in
    let looked = c.look-sight.ensures in
    rw (← same) (look_of g.P.Picture.number g.P.Picture.of c.look-sight.result.1
    (λ p. p.value) _ _ looked.later looked.last looked.history)
