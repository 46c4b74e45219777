use Rattle.std.proofs.Common.{◌∙◌, ap}
use Rattle.avida_program.proofs.Prelude.{err_from_is_err_and, values_of, nothing_written}
use Rattle.assay.specs.Assay.{assay_text, assays_text}
use Rattle.avida_program.proofs.seeds.write_assay.Goals as goal

pub returns-in_err-assays : goal.returns-in_err-assays
returns-in_err-assays g c =
    let p = err_from_is_err_and c.from_residual.result c.from_residual.ensures.1 in
    rw (p.1, p.2) (nothing_written (g.O.Sink.seen c.args.out.now)
    (assay_text (values_of c.args.config.now) c.args.first c.args.count))

pub returns-in_err-text : goal.returns-in_err-text
returns-in_err-text g c =
    let p = err_from_is_err_and c.from_residual-in_err-text.result
    c.from_residual-in_err-text.ensures.1 in
    rw (p.1, p.2) (nothing_written (g.O.Sink.seen c.args.out.now)
    (assay_text (values_of c.args.config.now) c.args.first c.args.count))

pub returns : goal.returns
returns g c =
    rw (c.deref.ensures.value ∙ c.in_ok-text.ensures
    ∙ ap assays_text (c.as_slice.ensures ∙ c.in_ok-assays.ensures)) at c.put_text.ensures
