use Rattle.std.proofs.Common.{◌∙◌}
use Rattle.logged_run.proofs.PublishedLemmas.{new_begun, new_observed}
use Rattle.logged_run.proofs.beginning.begin_published.Goals as goal

pub returns-in-Ok : goal.returns-in-Ok
returns-in-Ok g c =
    let made = c.in-Ok.ensures in
    record {
      config_is = made.config ∙ c.requires.picture_config;
      begun = new_begun _ c.args.progress c.requires made.publisher;
      observed = new_observed _ c.args.progress c.requires made.observer;
    }
