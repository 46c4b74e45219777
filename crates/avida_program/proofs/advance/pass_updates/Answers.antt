use Rattle.std.proofs.Common.{◌∙◌, Err, ap, refl}
use Rattle.avida_program.proofs.Prelude.{never_fails}
use Rattle.avida_program.proofs.advance.pass_updates.Goals as goal

pub unreachable-requires : goal.unreachable-requires
unreachable-requires g c =
    never_fails c.write_updates.result c.write_updates.ensures.text refl
    (c.in-Err-Fault.is ∙ ap Err c.in-Err-Fault.field-0-is)
