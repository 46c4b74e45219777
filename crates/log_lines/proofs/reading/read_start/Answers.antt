use Rattle.std.proofs.Common.{Some, None}
use Rattle.std.specs.Prelude.{option_copied}
use Rattle.log_lines.proofs.Prelude.{words_of}
use Rattle.genome.specs.Genome.{letters}
use Rattle.log_lines.proofs.BeginLemmas.{start_none, start_some}
use Rattle.log_lines.proofs.reading.read_start.Goals as goal

pub returns-in_default : goal.returns-in_default
returns-in_default c = start_none (words_of (option_copied c.args.rest)) c.in_default.ensures

pub returns-in-Ok-Some : goal.returns-in-Ok-Some
returns-in-Ok-Some c =
    start_some (words_of (option_copied c.args.rest)) (words_of (option_copied c.in-Some.rest))
    c.in-Some.opening (Some (letters c.in-Ok-Some.genome)) c.in-Some.ensures
    (rw c.in-Ok-Some.field-0-is at c.in-Ok-Some.ensures)

pub returns-in-Ok-None : goal.returns-in-Ok-None
returns-in-Ok-None c =
    start_some (words_of (option_copied c.args.rest)) (words_of (option_copied c.in-Some.rest))
    c.in-Some.opening None c.in-Some.ensures
    (rw c.in-Ok-None.field-0-is at c.in-Ok-None.ensures)
