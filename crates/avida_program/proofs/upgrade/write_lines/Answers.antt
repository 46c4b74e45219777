use Rattle.std.proofs.Common.{◌≡◌, ◌+◌, ◌++◌, ◌∙◌, Err, ap, length, arith}
use Rattle.avida_program.proofs.Prelude.{err_from_is_err_and, line_values, line_text}
use Rattle.avida_program.proofs.ListTexts.{item_stopped, item_written, items_wanting, items_whole, texts_of_values}
use Rattle.avida_program.proofs.upgrade.write_lines.Invariants.{text_of}
use Rattle.avida_program.proofs.upgrade.write_lines.Goals as goal

pub returns-in_err-write_line : goal.returns-in_err-write_line
returns-in_err-write_line g c =
    let p = err_from_is_err_and c.from_residual.result c.from_residual.ensures.1 in
    rw (p.1, p.2, texts_of_values line_text line_values c.args.lines.now)
    (items_wanting text_of c.args.lines.now c.loop-line.line-index c.loop-line.invariant)

pub returns-in_err-write_text : goal.returns-in_err-write_text
returns-in_err-write_text g c =
    let p = err_from_is_err_and c.from_residual-in_err-write_text.result
    c.from_residual-in_err-write_text.ensures.1 in
    let i = c.loop-line.line-index in
    let line = text_of c.line-item.result in
    let shows =
    c.deref.ensures.value ∙ c.in_ok-write_line.ensures.ok
    ∙ ap (λ l. l ++ line) c.clear.ensures.items in
    let wrote = item_written {r = Err c.in_err-write_text.field-0.0} text_of c.args.lines.now i c.line-item.result c.loop-line.invariant
    c.in_err-write_text.ensures shows c.line-item.is c.loop-line-test.true in
    rw (p.1, p.2, texts_of_values line_text line_values c.args.lines.now)
    (item_stopped text_of c.args.lines.now (i + 1) wrote)

pub loop-line-preserved : goal.loop-line-preserved
loop-line-preserved g c =
    let line = text_of c.line-item.result in
    let shows =
    c.deref.ensures.value ∙ c.in_ok-write_line.ensures.ok
    ∙ ap (λ l. l ++ line) c.clear.ensures.items in
    item_written text_of c.args.lines.now c.loop-line.line-index c.line-item.result
    c.loop-line.invariant c.in_ok-write_text.ensures shows c.line-item.is c.loop-line-test.true

pub returns : goal.returns
returns g c =
    let i = c.loop-line.line-index in
    let at_end : i ≡ length c.args.lines.now = omega (arith, c.loop-line.auto.line-index-end) in
    rw (texts_of_values line_text line_values c.args.lines.now)
    (c.put_rest.ensures _ _
    (items_whole text_of c.args.lines.now i c.loop-line.invariant at_end))
