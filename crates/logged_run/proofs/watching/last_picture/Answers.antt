use Rattle.std.proofs.Common.{◌≡◌, ◌≤◌, ap, arith}
use Rattle.logged_run.proofs.Prelude.{values_of, WorldPicture}
use Rattle.logged_run.proofs.PublishedLemmas.{looked}
use Rattle.logged_run.proofs.watching.last_picture.Goals.{In_ok-picture}
use Rattle.logged_run.proofs.watching.last_picture.Goals as goal

-- what the look shows is of the run, and no older than its last picture
seen : (c : In_ok-picture)
    → (c.args.published.value.update ≤ c.in_ok-picture.picture.value.update)
    × (values_of c.in_ok-picture.picture.value.config.value
    ≡ values_of c.args.published.value.config.value)
seen c =
    let update = c.args.published.value.update in
    let config = values_of c.args.published.value.config.value in
    let heard = c.hear_last.ensures config update c.requires.observer c.requires.note in
    looked config c.hear_last.new.observer c.look.new.self c.in_ok-picture.picture.value update
    heard.0 heard.1 c.in_ok-picture.ensures.later c.in_ok-picture.ensures.last
    c.look.ensures.history

pub returns-clause-update : goal.returns-clause-update
returns-clause-update c =
    let shown = ap (λ (p : WorldPicture). p.update) c.deref.ensures in
    let known = ap (λ (p : WorldPicture). p.update) c.deref-2.ensures in
    let later = (seen (goal.at.returns-clause-update c).In_ok-picture).0 in
    omega (arith, later, shown, known, c.if-deref.false)

pub returns-clause-config : goal.returns-clause-config
returns-clause-config c = (seen (goal.at.returns-clause-config c).In_ok-picture).1
