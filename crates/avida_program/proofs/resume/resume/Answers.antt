use Rattle.avida_program.proofs.ReadEnds.{not_read, read_and_wrote}
use Rattle.avida_program.proofs.resume.resume.Goals as goal

pub returns-in_err-state : goal.returns-in_err-state
returns-in_err-state g c =
    not_read c.in_err-state.field-0.0 c.from_residual.ensures.1 c.in_err-state.ensures.err

pub returns : goal.returns
returns g c = read_and_wrote c.in_ok-state.ensures.ok c.write_on.ensures c.ended_by.ensures
