use Rattle.std.proofs.Common.{◌≡◌, ◌++◌, take}
use Rattle.saved_lines.proofs.Prelude.{words_text, signed_words}
use Rattle.saved_lines.proofs.writing.integers.Given as goal

abbrev pub invariant-loop-number : goal.invariant-loop-number
invariant-loop-number l =
    l.out.items ≡ l.initial.out.items
    ++ words_text (signed_words (take l.number-index l.numbers))
