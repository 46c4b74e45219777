use Rattle.std.proofs.Common.{◌∙◌, ◌∷◌, ℕ, List, ap, arith}
use Rattle.log_lines.proofs.BirthFrontLemmas.{number_front}
use Rattle.log_lines.proofs.front.large_front.Goals as goal

pub returns : goal.returns
returns c =
    let found = c.in_ok-value in
    c.in_ok-digits.ensures
    ∙ ap (λ (l : List ℕ). 32 ∷ l)
    (number_front c.in_ok-digits.digits.now found.value found.len 18446744073709551615 (omega arith)
    found.ensures.number found.ensures.len found.ensures.within)
