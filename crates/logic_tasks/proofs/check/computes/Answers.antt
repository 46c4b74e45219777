use Rattle.std.proofs.Common.{arith}
use Rattle.logic_tasks.proofs.BitLemmas.{computes-word}
use Rattle.logic_tasks.proofs.check.computes.Goals as goal

pub returns : goal.returns
returns c = computes-word c.args.task c.args.output c.args.x c.args.y c.word.result (omega arith)
    (omega arith) c.word.ensures
