use Rattle.avida_program.proofs.ReadEnds.{not_read, read_and_wrote}
use Rattle.avida_program.proofs.upgrade.upgrade.Goals as goal

pub returns-in_err-log : goal.returns-in_err-log
returns-in_err-log g c =
    not_read c.in_err-log.field-0.0 c.from_residual.ensures.1 c.in_err-log.ensures.err

pub returns : goal.returns
returns g c = read_and_wrote c.in_ok-log.ensures.ok c.write_upgraded.ensures c.ended_by.ensures
