use Rattle.std.proofs.Common.{◌≡◌, ◌+◌, ◌++◌, ◌∙◌, Err, ap, length, arith}
use Rattle.avida_program.proofs.Prelude.{err_from_is_err_and, path_line}
use Rattle.avida_program.proofs.ListTexts.{item_stopped, item_written, items_wanting, items_whole}
use Rattle.avida_program.proofs.lineage.write_links.Goals as goal

pub returns-in_err-add_link : goal.returns-in_err-add_link
returns-in_err-add_link g c =
    let p = err_from_is_err_and c.from_residual.result c.from_residual.ensures.1 in
    rw (p.1, p.2)
    (items_wanting path_line c.args.links.now c.loop-link.link-index c.loop-link.invariant)

pub returns-in_err-write_text : goal.returns-in_err-write_text
returns-in_err-write_text g c =
    let p = err_from_is_err_and c.from_residual-in_err-write_text.result
    c.from_residual-in_err-write_text.ensures.1 in
    let i = c.loop-link.link-index in
    let line = path_line c.link-item.result in
    let shows =
    c.deref.ensures.value ∙ c.in_ok-add_link.ensures ∙ ap (λ l. l ++ line) c.clear.ensures.items in
    let wrote = item_written {r = Err c.in_err-write_text.field-0.0} path_line c.args.links.now i c.link-item.result c.loop-link.invariant
    c.in_err-write_text.ensures shows c.link-item.is c.loop-link-test.true in
    rw (p.1, p.2) (item_stopped path_line c.args.links.now (i + 1) wrote)

pub loop-link-preserved : goal.loop-link-preserved
loop-link-preserved g c =
    let line = path_line c.link-item.result in
    let shows =
    c.deref.ensures.value ∙ c.in_ok-add_link.ensures ∙ ap (λ l. l ++ line) c.clear.ensures.items in
    item_written path_line c.args.links.now c.loop-link.link-index c.link-item.result
    c.loop-link.invariant c.in_ok-write_text.ensures shows c.link-item.is c.loop-link-test.true

pub returns : goal.returns
returns g c =
    let i = c.loop-link.link-index in
    let at_end : i ≡ length c.args.links.now = omega (arith, c.loop-link.auto.link-index-end) in
    c.put_rest.ensures _ _
    (items_whole path_line c.args.links.now i c.loop-link.invariant at_end)
