use Rattle.std.proofs.Common.{◌≡◌, ◌+◌, ◌∙◌, ap, arith, length, ℕ}
use Rattle.logged_run.proofs.Prelude.{err_from_is_err_and, WorldValue, IsWorldAt, update_text, kept_holds, kept_writes, nothing_written, put_written}
use Rattle.logged_run.proofs.logging.write_update.Goals as goal

pub returns-in_err-next-clause-text : goal.returns-in_err-next-clause-text
returns-in_err-next-clause-text g c =
    let p = err_from_is_err_and c.from_residual.result c.from_residual.ensures.1 in
    rw (p.1, p.2) (nothing_written (g.O.Sink.seen c.args.out.now)
    (update_text c.args.world.config (c.args.world.update + 1)))

pub returns-clause-text : goal.returns-clause-text
returns-clause-text g c =
    let same = c.deref.ensures.value ∙ c.in_ok-next.ensures.text in
    rw same at (kept_writes c.kept.ensures.ok c.kept.ensures.err (put_written c.put-put.ensures.puts))

pub returns-clause-world : goal.returns-clause-world
returns-clause-world g c =
    kept_holds (λ (next : WorldValue × ℕ). IsWorldAt c.args.world.config (c.args.world.update + 1)
    next.0) (c.in_ok-next.next, c.len.result) c.kept.result c.kept.ensures.value
    (record { config = c.in_ok-next.ensures.config; update = c.in_ok-next.ensures.update })

pub returns-clause-bytes : goal.returns-clause-bytes
returns-clause-bytes g c =
    let long : c.len.result ≡ length c.in_ok-next.text.items =
    omega (arith, c.len.ensures, c.in_ok-next.text.ok.0) in
    kept_holds (λ (next : WorldValue × ℕ).
    next.1 ≡ length (update_text c.args.world.config (c.args.world.update + 1)))
    (c.in_ok-next.next, c.len.result) c.kept.result c.kept.ensures.value
    (long ∙ ap length c.in_ok-next.ensures.text)
