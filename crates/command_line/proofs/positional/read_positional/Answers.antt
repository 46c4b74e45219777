use Rattle.std.proofs.Common.{◌∙◌, ◌≤◌, ap}
use Rattle.command_line.proofs.Prelude.{err_from_is_err_and, app_of, found_of, is_simple, is_simple_and_free, rows_of, BadWords}
use Rattle.command_line.proofs.ParserEnds.{ends, stops}
use Rattle.command_line.proofs.PositionalLemmas.{if_ok}
use Rattle.command_line.proofs.positional.read_positional.Goals as goal

pub matches-requires-clause-simple : goal.matches-requires-clause-simple
matches-requires-clause-simple c = ap is_simple c.in-Ok.ensures ∙ c.requires.reads.simple

pub matches-requires-clause-free : goal.matches-requires-clause-free
matches-requires-clause-free c = ap is_simple_and_free c.in-Ok.ensures ∙ c.requires.reads.free

pub returns-in_err-matches-clause-told : goal.returns-in_err-matches-clause-told
returns-in_err-matches-clause-told c =
    let p = err_from_is_err_and c.from_residual.result c.from_residual.ensures.1 in
    rw (p.1, p.2) (stops c.requires.reads c.one_spelling.ensures.no_minus
    c.args.words.now (app_of c.in-Ok.command) c.in_err-matches.field-0.0 c.requires.some
    c.in-Ok.ensures c.in_err-matches.ensures)

pub returns-clause-told : goal.returns-clause-told
returns-clause-told c =
    ends c.requires.reads c.one_spelling.ensures.no_minus c.args.words.now
    (app_of c.in-Ok.command) (rows_of (found_of c.in_ok-matches.matches)) c.taken.result
    c.ok_or.result c.requires.some c.in-Ok.ensures c.in_ok-matches.ensures.0
    c.in_ok-matches.ensures.1 c.taken.ensures.told c.ok_or.ensures.value

pub returns-clause-bound : goal.returns-clause-bound
returns-clause-bound c =
    if_ok (λ p. p.number ≤ c.args.greatest) c.taken.result BadWords c.ok_or.result
    c.ok_or.ensures.value c.taken.ensures.bound
