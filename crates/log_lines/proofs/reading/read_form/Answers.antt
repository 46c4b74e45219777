use Rattle.std.proofs.Common.{◌≡◌, ◌∙◌, Option, arith, subst, option_map}
use Rattle.std.specs.Prelude.{IfOk, option_copied}
use Rattle.log_lines.proofs.Prelude.{forms, Line, line_values, words_of}
use Rattle.log_lines.proofs.MarkLemmas.{by_mark, is_plain}
use Rattle.log_lines.proofs.reading.read_form.Goals as goal

pub returns-in-66 : goal.returns-in-66
returns-in-66 c =
    subst (λ (o : Option Line). IfOk c.read_birth.result (λ found. option_map line_values found ≡ o))
    (by_mark forms (words_of (option_copied c.args.rest)) c.args.mark 66 c.in-66.is)
    c.read_birth.ensures

pub returns-in-76 : goal.returns-in-76
returns-in-76 c =
    subst (λ (o : Option Line). IfOk c.read_start.result (λ found. option_map line_values found ≡ o))
    (by_mark forms (words_of (option_copied c.args.rest)) c.args.mark 76 c.in-76.is)
    c.read_start.ensures

pub returns-in-73 : goal.returns-in-73
returns-in-73 c =
    subst (λ (o : Option Line). IfOk c.read_injected.result (λ found. option_map line_values found ≡ o))
    (by_mark forms (words_of (option_copied c.args.rest)) c.args.mark 73 c.in-73.is)
    c.read_injected.ensures

pub returns-in_default : goal.returns-in_default
returns-in_default c = c.read_plain.ensures
    ∙ is_plain (words_of (option_copied c.args.rest)) c.args.mark (λ e. omega arith)
    (λ e. omega arith) (λ e. omega arith)
