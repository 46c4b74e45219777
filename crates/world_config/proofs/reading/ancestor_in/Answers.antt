use Rattle.world_config.proofs.Prelude.{err_from_is_err_and, Ancestor}
use Rattle.world_config.proofs.reading.ancestor_in.Goals as goal

pub returns-in_err-text-clause-refused : goal.returns-in_err-text-clause-refused
returns-in_err-text-clause-refused c =
    let p = err_from_is_err_and c.from_residual.result c.from_residual.ensures.1 in
    rw (p.1, p.2) (λ _. c.in_err-text.ensures.refused c.args.lengths.now.least_length
    c.args.lengths.now.greatest_length)

pub returns-in_err-genome-clause-refused : goal.returns-in_err-genome-clause-refused
returns-in_err-genome-clause-refused c =
    let p = err_from_is_err_and c.from_residual-in_err-genome.result
    c.from_residual-in_err-genome.ensures.1 in
    rw (p.1, p.2, c.in_ok-text.ensures.value)
    (λ some. c.in_err-genome.ensures.refused some Ancestor c.args.lengths.now.least_length
    c.args.lengths.now.greatest_length)
