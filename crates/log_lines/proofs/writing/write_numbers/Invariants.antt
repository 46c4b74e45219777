use Rattle.std.proofs.Common.{◌≡◌, ◌++◌, take}
use Rattle.log_lines.proofs.Prelude.{numbers_text}
use Rattle.log_lines.proofs.writing.write_numbers.Given as goal

abbrev pub invariant-loop-number : goal.invariant-loop-number
invariant-loop-number l =
    l.out.items ≡ l.initial.out.items ++ numbers_text (take l.number-index l.numbers)
