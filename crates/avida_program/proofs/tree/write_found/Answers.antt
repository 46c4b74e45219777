use Rattle.std.proofs.Common.{[], append-nil}
use Rattle.avida_program.proofs.Prelude.{err_from_is_err_and, lines_of_tree}
use Rattle.avida_program.proofs.TextEnds.{stopped_within}
use Rattle.avida_program.proofs.tree.write_found.Goals as goal

pub returns-in_err-write_lines : goal.returns-in_err-write_lines
returns-in_err-write_lines g c =
    let p = err_from_is_err_and c.from_residual.result c.from_residual.ensures.1 in
    let text = lines_of_tree c.args.found.now in
    let wrote = rw c.new-piece.ensures at c.in_err-write_lines.ensures in
    rw (p.1, p.2) (stopped_within [] text wrote (append-nil text))

pub returns : goal.returns
returns g c = c.put_rest.ensures _ _ (rw c.new-piece.ensures at c.in_ok-write_lines.ensures)
