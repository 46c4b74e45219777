use Rattle.std.proofs.Common.{◌∙◌, ap}
use Rattle.logged_run.proofs.Prelude.{err_from_is_err_and, values_of, WorldPicture, nothing_written, stopped_same, writes_same}
use Rattle.logged_run.proofs.NewsLemmas.{line_as}
use Rattle.logged_run.proofs.watching.write_last_picture.Goals as goal

pub returns-in_err-last : goal.returns-in_err-last
returns-in_err-last g c =
    let p = err_from_is_err_and c.from_residual.result c.from_residual.ensures.1 in
    rw (p.1, p.2) (nothing_written _ _)

pub returns-in_err-write_news : goal.returns-in_err-write_news
returns-in_err-write_news g c =
    let p = err_from_is_err_and c.from_residual-in_err-write_news.result
    c.from_residual-in_err-write_news.ensures.1 in
    let told = c.in_ok-last.ensures in
    let of = ap (λ (p : WorldPicture). values_of p.config.value) c.deref.ensures ∙ told.config in
    let at = ap (λ (p : WorldPicture). p.update) c.deref.ensures ∙ told.update in
    let to = ap (λ (p : WorldPicture). p.update) c.deref-2.ensures ∙ told.update in
    rw (p.1, p.2) (stopped_same (line_as c.args.newest of at to c.in_err-write_news.ensures.lines))

pub returns : goal.returns
returns g c =
    let told = c.in_ok-last.ensures in
    let of = ap (λ (p : WorldPicture). values_of p.config.value) c.deref.ensures ∙ told.config in
    let at = ap (λ (p : WorldPicture). p.update) c.deref.ensures ∙ told.update in
    let to = ap (λ (p : WorldPicture). p.update) c.deref-2.ensures ∙ told.update in
    writes_same (line_as c.args.newest of at to c.in_ok-write_news.ensures.lines)
