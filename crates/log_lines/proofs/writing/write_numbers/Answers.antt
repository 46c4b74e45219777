use Rattle.std.proofs.Common.{◌<◌, ◌∙◌, ℕ, length, take, decimal, append_assoc, arith}
use Rattle.log_lines.proofs.Prelude.{numbers_text}
use Rattle.log_lines.proofs.KeptLemmas.{keeps_before}
use Rattle.log_lines.proofs.TextLemmas.{words_text_more}
use Rattle.log_lines.proofs.writing.write_numbers.Goals as goal

pub loop-number-preserved : goal.loop-number-preserved
loop-number-preserved c =
    let numbers = c.args.numbers.now in
    let i = c.loop-number.number-index in
    let within : i < length numbers = omega arith in
    let more = words_text_more (λ (n : ℕ). decimal n) numbers i 0 within in
    rw (c.in_ok-write_number.ensures.ok, c.loop-number.invariant, more, append_assoc)

pub returns-in_err-write_number-clause-err : goal.returns-in_err-write_number-clause-err
returns-in_err-write_number-clause-err c =
    keeps_before c.from_residual.result c.args.out.now.items
    (numbers_text (take c.loop-number.number-index c.args.numbers.now))
    c.write_number.new.out.items (c.in_err-write_number.ensures.err ∙ c.loop-number.invariant)
