use Rattle.std.proofs.Common.{◌∙◌, List, ℕ, Option, Some, Bor, ap, sym}
use Rattle.std.specs.Prelude.{option_copied}
use Rattle.log_lines.proofs.Prelude.{number_of, words_of}
use Rattle.log_lines.proofs.TimesLemmas.{first_not_last}
use Rattle.log_lines.proofs.WordLemmas.{split_some}
use Rattle.log_lines.proofs.words.small_last.Goals as goal

pub returns-in-Some-others : goal.returns-in-Some-others
returns-in-Some-others c =
    let behind = c.in-Some-others.field-0 in
    let same = ap (λ (o : Option (Bor (List ℕ))). let pair : ℕ × List (List ℕ) =
    (c.in-Some.value, words_of (option_copied o)) in Some pair) (sym c.in-Some-others.is) in
    first_not_last (λ word. number_of c.args.least c.args.greatest word)
    (words_of (option_copied c.args.rest)) (words_of (Some behind.now)) c.in-Some.value
    (same ∙ c.in-Some.ensures) (split_some 32 behind.now)
