use Rattle.std.proofs.Common.{◌∙◌, Err, ap, refl}
use Rattle.logged_run.proofs.Prelude.{never_fails}
use Rattle.logged_run.proofs.logging.run_counted.Goals as goal

pub unreachable-requires : goal.unreachable-requires
unreachable-requires g c =
    never_fails c.write_counted.result c.write_counted.ensures.text refl
    (c.in-Err-Fault.is ∙ ap Err c.in-Err-Fault.field-0-is)
