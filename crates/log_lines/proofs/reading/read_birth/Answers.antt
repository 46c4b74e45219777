use Rattle.std.proofs.Common.{Some}
use Rattle.std.specs.Prelude.{option_copied}
use Rattle.log_lines.proofs.Prelude.{words_of}
use Rattle.mutations.specs.BirthRecord.{written_in}
use Rattle.log_lines.proofs.BeginLemmas.{birth_none, birth_some}
use Rattle.log_lines.proofs.reading.read_birth.Goals as goal

pub returns-in_default : goal.returns-in_default
returns-in_default c = birth_none (words_of (option_copied c.args.rest)) c.in_default.ensures

pub returns : goal.returns
returns c =
    let origin = c.in-Some-2.origin in
    birth_some (words_of (option_copied c.args.rest)) (words_of (option_copied c.in-Some.rest))
    c.in-Some.newborn (Some (written_in origin.base, origin.changes)) c.in-Some.ensures
    (rw c.in-Some-2.is at c.in_ok-origin.ensures)
