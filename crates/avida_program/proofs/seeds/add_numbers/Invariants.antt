-- The numbers so far are written.
use Rattle.std.proofs.Common.{◌≡◌, ◌++◌, take, map, decimal}
use Rattle.avida_program.proofs.Prelude.{words_text}
use Rattle.avida_program.proofs.seeds.add_numbers.Given as goal

abbrev pub invariant-loop-number : goal.invariant-loop-number
invariant-loop-number l =
    l.text.items ≡ l.fn.text.items ++ words_text (map decimal (take l.number-index l.numbers))
