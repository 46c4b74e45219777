use Rattle.std.proofs.Common.{◌∙◌, refl}
use Rattle.logged_run.proofs.beginning.found_pictured.Goals as goal

pub returns-in-Ok : goal.returns-in-Ok
returns-in-Ok g c =
    let founded = c.in_ok-world.ensures in
    let shown = c.in-Ok.ensures in
    record {
      world_config = founded.0;
      world_new = founded.1;
      picture_config = shown.config ∙ founded.0;
      picture_new = shown.update ∙ founded.1;
      untold = refl;
    }
