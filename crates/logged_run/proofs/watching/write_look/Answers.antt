use Rattle.std.proofs.Common.{◌∙◌, Some, ap, sym}
use Rattle.logged_run.proofs.Prelude.{err_from_is_err_and, values_of}
use Rattle.logged_run.proofs.WatcherLemmas.{look_ended, look_wanting}
use Rattle.logged_run.proofs.watching.write_look.Goals as goal

pub returns-in_err-picture : goal.returns-in_err-picture
returns-in_err-picture g c = λ looks start so.
    let p = err_from_is_err_and c.from_residual.result c.from_residual.ensures.1 in
    rw (p.1, p.2) (look_wanting looks (values_of c.args.config.now) c.args.observer.now
    c.args.newest start _ so)

pub returns : goal.returns
returns g c = λ looks start so.
    let last = c.in_ok-picture.ensures.last ∙ ap Some (sym c.deref.ensures) in
    look_ended looks (values_of c.args.config.now) c.args.observer.now c.look.new.self
    c.args.newest start _ _ c.deref.result.now so c.in_ok-picture.ensures.later last
    c.look.ensures.history c.write_news.result c.write_news.ensures.lines
    c.write_news.ensures.newest
