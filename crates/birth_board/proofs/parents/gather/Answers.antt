use Rattle.std.proofs.Common.{◌∙◌, sym, ap, arith, ◌++◌, replicate, get_or, All, ◌<◌}
use Rattle.birth_board.specs.Placement.{parents_of}
use Rattle.birth_board.proofs.ParentsLemmas.{parents_below, parents_below-more, parents_below-rise}
use Rattle.birth_board.proofs.parents.gather.Goals as goal

pub loop-cell-preserved : goal.loop-cell-preserved
loop-cell-preserved c = c.in_ok-append.ensures
    ∙ ap (λ l. l ++ replicate (get_or c.args.counts.now c.loop-cell.cell 0) c.loop-cell.cell)
    c.loop-cell.invariant ∙ sym (parents_below-more c.args.counts.now c.loop-cell.cell)

pub returns-clause-parents : goal.returns-clause-parents
unfolding parents_of
returns-clause-parents c =
    c.from_vec.ensures ∙ c.loop-cell.invariant ∙ ap (parents_below c.args.counts.now) (omega arith)

pub returns-clause-rising : goal.returns-clause-rising
returns-clause-rising c =
    rw (c.from_vec.ensures, c.loop-cell.invariant)
    (parents_below-rise c.args.counts.now c.loop-cell.cell).0

pub returns-clause-counted : goal.returns-clause-counted
returns-clause-counted c =
    let below : All (λ cell. cell < c.loop-cell.cell) c.from_vec.result =
    rw (c.from_vec.ensures, c.loop-cell.invariant)
    (parents_below-rise c.args.counts.now c.loop-cell.cell).1 in
    λ k d within. omega (arith, below k d within)
