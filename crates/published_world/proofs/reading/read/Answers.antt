use Rattle.published_world.proofs.RuleLemmas.{looks}
use Rattle.published_world.proofs.SightLemmas.{read_later, read_shown}
use Rattle.published_world.proofs.reading.read.Goals as goal

pub enter_as-requires : goal.enter_as-requires
enter_as-requires g c = looks g.P.Picture.number g.P.Picture.of _ _

pub returns-in-Ok-clause-later : goal.returns-in-Ok-clause-later
returns-in-Ok-clause-later g c =
    let looked = c.in-Ok.ensures.1 in
    let copied = rw c.get.ensures at c.copy-shown.ensures in
    rw c.leave.ensures.1 (read_later g.P.Picture.number g.P.Picture.of c.copy-shown.result _ _
    c.args.last.now _ copied looked.prefix looked.shows)

pub returns-in-Ok-clause-shown : goal.returns-in-Ok-clause-shown
returns-in-Ok-clause-shown g c =
    let looked = c.in-Ok.ensures.1 in
    let copied = rw c.get.ensures at c.copy-shown.ensures in
    rw c.leave.ensures.1 (read_shown g.P.Picture.number g.P.Picture.of c.copy-shown.result _ _
    c.args.last.now _ copied c.requires looked.prefix looked.shows looked.publication)
