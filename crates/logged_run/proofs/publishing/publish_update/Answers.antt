use Rattle.std.proofs.Common.{refl}
use Rattle.logged_run.proofs.Prelude.{err_from_is_err_and, stopped_same, wanting_after, writes_same}
use Rattle.logged_run.proofs.PublishedLemmas.{come_to}
use Rattle.logged_run.proofs.publishing.publish_update.Goals as goal

pub publish_picture-requires : goal.publish_picture-requires
publish_picture-requires g c =
    let at = rw c.world_of.ensures at c.in_ok-world.ensures.world in
    rw (at.config, at.update) c.requires.come.pictures

pub returns-in_err-world-clause-text : goal.returns-in_err-world-clause-text
returns-in_err-world-clause-text g c =
    let p = err_from_is_err_and c.from_residual.result c.from_residual.ensures.1 in
    rw (p.1, p.2) (stopped_same (rw c.world_of.ensures at c.in_err-world.ensures.text))

pub returns-in-Err-clause-text : goal.returns-in-Err-clause-text
returns-in-Err-clause-text g c =
    wanting_after (rw c.world_of.ensures at c.in_ok-world.ensures.text)

pub returns-in-Ok-clause-come : goal.returns-in-Ok-clause-come
returns-in-Ok-clause-come g c =
    come_to (rw c.world_of.ensures at c.in_ok-world.ensures.world) c.in-Ok.ensures refl

pub returns-in-Ok-clause-text : goal.returns-in-Ok-clause-text
returns-in-Ok-clause-text g c = writes_same (rw c.world_of.ensures at c.in_ok-world.ensures.text)
