use Rattle.std.proofs.Common.{refl}
use Rattle.logged_run.proofs.Prelude.{values_of, run_text}
use Rattle.logged_run.proofs.publishing.publish_run.Goals as goal

pub returns : goal.returns
returns g c =
    record {
      come = c.publish_log-run.ensures.come;
      log = record {
        text = run_text (values_of c.args.config.now);
        is = refl;
        writes = c.publish_log-run.ensures.text;
      };
    }
