use Rattle.std.proofs.Common.{◌∙◌, ap}
use Rattle.logged_run.proofs.Prelude.{values_of, WorldPicture}
use Rattle.logged_run.proofs.beginning.publish_new.Goals as goal

pub returns-clause-config : goal.returns-clause-config
returns-clause-config g c =
    ap values_of c.in_ok-config.ensures
    ∙ ap (λ (p : WorldPicture). values_of p.config.value) c.deref.ensures
