use Rattle.avida_program.proofs.ReadEnds.{not_read, read_and_wrote}
use Rattle.avida_program.proofs.seeds.assay.Goals as goal

pub returns-in_err-config : goal.returns-in_err-config
returns-in_err-config g c =
    not_read c.in_err-config.field-0.0 c.from_residual.ensures.1 c.in_err-config.ensures.err

pub returns : goal.returns
returns g c = read_and_wrote c.in_ok-config.ensures.ok c.write_assay.ensures c.ended_by.ensures
