use Rattle.std.proofs.Common.{◌∙◌, ◌∷◌, ℕ, List, Option, Some, sym, ap, Bor}
use Rattle.std.specs.Prelude.{option_copied}
use Rattle.log_lines.proofs.Prelude.{read_last, words_of}
use Rattle.log_lines.proofs.WordLemmas.{last_more}
use Rattle.log_lines.proofs.words.last_word.Goals as goal

pub returns-in_default-Some : goal.returns-in_default-Some
returns-in_default-Some c =
    let read = λ (w : List ℕ). Some w in
    let word = c.split_at.result.0.now in
    sym (ap (λ (o : Option (Bor (List ℕ))). read_last read (words_of (option_copied o)))
    c.in-Some.is
    ∙ ap (λ (ws : List (List ℕ)). read_last read ws) c.split_at.ensures.pieces
    ∙ ap (λ (o : Option (Bor (List ℕ))). read_last read (word ∷ words_of (option_copied o)))
    c.in_default-Some.is-1
    ∙ last_more read word c.in_default-Some.field-0-1.now)
