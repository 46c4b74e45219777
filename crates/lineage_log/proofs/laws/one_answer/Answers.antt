use Rattle.std.proofs.Common.{List, Result, subst}
use Rattle.lineage_log.proofs.Prelude.{Line, LogStop, ReadsLog}
use Rattle.lineage_log.proofs.LogLaws.{log_is_read, reads_one_log}
use Rattle.lineage_log.proofs.laws.one_answer.Goals as goal

pub returns : goal.returns
returns c =
    let spell = c.one_spelling.ensures in
    λ bytes answer. (
      reads_one_log spell bytes answer,
      λ is. subst (λ (a : Result (List Line) LogStop). ReadsLog bytes a) is
          (log_is_read spell bytes),
    )
