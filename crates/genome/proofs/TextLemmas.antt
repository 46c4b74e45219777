-- Blanks at the end of a text.
use Rattle.std.proofs.Common.{◌≡◌, ◌∙◌, sym, ap, ℕ, true, false, cond, List, [], ◌∷◌, ◌++◌}
use Rattle.std.specs.Prelude.{reverse}
use Rattle.std.proofs.lemmas.List.{reverse-append}
use Rattle.genome.specs.GenomeText.{after_blanks, is_blank}

-- a blank at the end is passed
pub after_blanks-blank : (front : List ℕ) (last : ℕ) → is_blank last ≡ true
    → after_blanks (reverse (front ++ last ∷ [])) ≡ after_blanks (reverse front)
after_blanks-blank front last blank = ap after_blanks (reverse-append front (last ∷ []))
    ∙ ap (λ b. cond b (after_blanks (reverse front)) (last ∷ reverse front)) blank

-- another byte at the end stays
pub after_blanks-stays : (front : List ℕ) (last : ℕ) → is_blank last ≡ false
    → after_blanks (reverse (front ++ last ∷ [])) ≡ reverse (front ++ last ∷ [])
after_blanks-stays front last none = ap after_blanks (reverse-append front (last ∷ []))
    ∙ ap (λ b. cond b (after_blanks (reverse front)) (last ∷ reverse front)) none
    ∙ sym (reverse-append front (last ∷ []))

pub ruleset blanks_at_the_end = (after_blanks-blank, after_blanks-stays)
