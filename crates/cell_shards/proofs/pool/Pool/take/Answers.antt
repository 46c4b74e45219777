use Rattle.std.proofs.Common.{rules, ◌≡◌, ◌∙◌, ◌∷◌, ℕ, IfSome, List, None, Option, Some, ap, get_or, slice_get, subst, sym}
use Rattle.cell_shards.proofs.Prelude.{rest, Job}
use Rattle.cell_shards.proofs.PoolLemmas.{asks, taken_out}
use Rattle.cell_shards.proofs.pool.Pool.take.Goals as goal

pub swap-requires : goal.swap-requires
swap-requires c = (search rules, search rules, asks _ _ _ _ _)

pub exchange-requires : goal.exchange-requires
exchange-requires c =
    let number = c.args.number in
    let out = taken_out c.args.self.now.jobs c.seat.inside.seat.me.0 number c.swap.result
    c.seat.inside.seat.me.1 c.swap.new.seat.me.1 (search rules) c.requires.number
    c.if-swap-ne0.false c.swap.ensures.2.1 in
    (search rules, (Some out.0, out.2 ∙ ap (λ l. (number, Some out.0) ∷ rest l) (sym out.2)))

pub returns-clause-job : goal.returns-clause-job
returns-clause-job c =
    let jobs = c.args.self.now.jobs in
    let number = c.args.number in
    let out = taken_out jobs c.seat.inside.seat.me.0 number c.swap.result
    c.seat.inside.seat.me.1 c.swap.new.seat.me.1 (search rules) c.requires.number
    c.if-swap-ne0.false c.swap.ensures.2.1 in
    let same : c.exchange.result ≡ Some out.0 =
    ap (λ (l : List (ℕ × Option Job)). (get_or l 0 (0, None)).1)
    (sym c.exchange.ensures.2 ∙ out.2) in
    subst (λ (found : Option Job). IfSome found (λ job. slice_get jobs number ≡ Some job))
    (sym same) out.1
