use Rattle.std.proofs.Common.{◌∙◌, Option, Some, Bor, List, ℕ, ap, sym}
use Rattle.std.specs.Prelude.{option_copied}
use Rattle.saved_lines.proofs.Prelude.{words_of, read_within, head_ranges}
use Rattle.log_lines.proofs.WordLemmas.{split_some}
use Rattle.saved_lines.proofs.ItemLemmas.{more_left}
use Rattle.saved_lines.proofs.reading.read_head.Goals as goal

pub returns-in-Some : goal.returns-in-Some
returns-in-Some c =
    let found = read_within head_ranges (words_of (option_copied c.args.rest)) in
    let behind = c.in-Some.field-0 in
    let same = ap (λ (o : Option (Bor (List ℕ))). let p : List ℕ × List (List ℕ) =
    (c.in_ok-numbers.numbers, words_of (option_copied o)) in Some p) (sym c.in-Some.is) in
    more_left found c.in_ok-numbers.numbers (words_of (Some behind.now))
    (same ∙ c.in_ok-numbers.ensures.read) (split_some 32 behind.now)
