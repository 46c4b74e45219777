use Rattle.std.proofs.Common.{◌≡◌, ◌∙◌, ap}
use Rattle.logged_run.proofs.Prelude.{values_of, WorldPicture}
use Rattle.logged_run.proofs.PublishedLemmas.{may_follow, more_pictures}
use Rattle.logged_run.proofs.publishing.publish_picture.Goals as goal

pub publish-requires : goal.publish-requires
publish-requires g c =
    let copy = c.in_ok-try_clone.ensures in
    may_follow c.args.world.now.config c.args.world.now.update c.args.publisher.now
    c.in_ok-try_clone.field-0.value c.requires
    (ap (λ (p : WorldPicture). p.update) copy ∙ c.in_ok-picture.ensures.update)
    (ap (λ (p : WorldPicture). values_of p.config.value) copy ∙ c.in_ok-picture.ensures.config)

pub returns : goal.returns
returns g c =
    let next = c.in_ok-try_clone.field-0.value in
    let is : next.update ≡ c.args.world.now.update =
    ap (λ (p : WorldPicture). p.update) c.in_ok-try_clone.ensures
    ∙ c.in_ok-picture.ensures.update in
    record {
      pictures = rw c.in_ok-note.ensures.ok
          (more_pictures c.args.world.now.config c.args.world.now.update c.args.publisher.now next
          c.requires is);
      picture_config = c.in_ok-picture.ensures.config;
      picture_update = c.in_ok-picture.ensures.update;
      note = c.in_ok-note.ensures.note;
    }
