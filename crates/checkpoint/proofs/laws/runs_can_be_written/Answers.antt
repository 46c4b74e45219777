use Rattle.checkpoint.proofs.laws.runs_can_be_written.Goals as goal

pub returns : goal.returns
returns c =
    record { valid = c.runs_can_go_on.ensures.valid; fits = c.runs_can_go_on.ensures.fits }
