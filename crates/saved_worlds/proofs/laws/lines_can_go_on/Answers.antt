use Rattle.saved_worlds.proofs.Lines.{lines_fit, lines_valid}
use Rattle.saved_worlds.proofs.laws.lines_can_go_on.Goals as goal

pub returns-clause-valid : goal.returns-clause-valid
returns-clause-valid c = lines_valid

pub returns-clause-fits : goal.returns-clause-fits
returns-clause-fits c = lines_fit
