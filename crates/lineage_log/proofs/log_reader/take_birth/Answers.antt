use Rattle.std.proofs.Common.{Result, refl, subst}
use Rattle.log_lines.specs.Line.{birth_values}
use Rattle.lineage_log.proofs.Prelude.{Refusal, Tells, place_of, told}
use Rattle.lineage_log.proofs.ReadLemmas.{line_read, line_refused}
use Rattle.lineage_log.proofs.log_reader.take_birth.Goals as goal

pub returns-in-Err-clause-fault : goal.returns-in-Err-clause-fault
returns-in-Err-clause-fault c =
    let reader = c.args.reader.now in
    let line = birth_values reader.birth in
    let next = place_of c.tell_birth.new.place in
    let bad = subst (λ (t : Result (Unit {0}) Refusal). Tells (λ done. next) t
    (told (place_of reader.place) line)) c.in-Err.is c.tell_birth.ensures in
    λ other. line_refused reader line c.args.behind.now c.requires.front c.in-Err.refusal
    c.stop_for.result next c.stop_for.ensures other bad

pub returns-clause-ok : goal.returns-clause-ok
returns-clause-ok c =
    line_read c.args.reader.now (birth_values c.args.reader.now.birth) c.args.behind.now
    c.requires.front c.pass.result _ c.pass.new.reader c.pass.ensures.ok refl
    (rw c.in_default.is at c.tell_birth.ensures)
