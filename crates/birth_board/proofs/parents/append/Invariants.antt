use Rattle.std.proofs.Common.{◌≡◌, ◌++◌, replicate}
use Rattle.birth_board.proofs.parents.append.Given as goal

abbrev pub invariant-loop : goal.invariant-loop
invariant-loop l = l.cells.items ≡ l.initial.cells.items ++ replicate l.counter l.cell
