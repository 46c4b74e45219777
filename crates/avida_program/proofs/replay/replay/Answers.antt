use Rattle.avida_program.proofs.ReadEnds.{not_read, read_and_wrote}
use Rattle.avida_program.proofs.replay.replay.Goals as goal

pub returns-in_err-livings : goal.returns-in_err-livings
returns-in_err-livings g c =
    not_read c.in_err-livings.field-0.0 c.from_residual.ensures.1 c.in_err-livings.ensures.err

pub returns : goal.returns
returns g c =
    let read = c.in_ok-livings.ensures.ok in
    read_and_wrote read.1 (c.write_replayed.ensures read.0 read.2) c.ended_by.ensures
