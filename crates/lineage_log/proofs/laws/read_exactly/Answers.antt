use Rattle.lineage_log.proofs.LogLaws.{log_takes, read_back}
use Rattle.lineage_log.proofs.laws.read_exactly.Goals as goal

pub returns : goal.returns
returns c =
    let spell = c.one_spelling.ensures in
    λ bytes lines. (log_takes spell bytes lines, λ p. read_back spell bytes lines p.0 p.1)
