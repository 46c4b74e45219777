use Rattle.std.proofs.Common.{◌∙◌, ◌∷◌, ◌++◌, ℕ, List, Option, sym, ap, Bor}
use Rattle.std.specs.Prelude.{option_copied, option_map}
use Rattle.log_lines.proofs.Prelude.{pieces_of}
use Rattle.mutations.specs.BirthRecord.{written_in}
use Rattle.log_lines.proofs.KindLaws.{base_law}
use Rattle.log_lines.proofs.BirthFrontLemmas.{piece_front}
use Rattle.numerals.proofs.SpellingLemmas.{numbers_spell}
use Rattle.log_lines.proofs.front.written_front.Goals as goal

pub returns-in-Some-2-clause-text : goal.returns-in-Some-2-clause-text
returns-in-Some-2-clause-text c =
    let word = c.split_at.result.0.now in
    let behind = c.in-Some.behind.now in
    let spelled = (base_law numbers_spell).takes word (written_in c.in-Some-2.written)
    (sym c.in_ok-written.ensures ∙ ap (option_map written_in) c.in-Some-2.is) in
    piece_front 32 c.args.text.now word behind
    (c.split_at.ensures.pieces ∙ ap (λ (o : Option (Bor (List ℕ))). word
    ∷ pieces_of 32 (option_copied o)) c.in-Some.is)
    ∙ ap (λ (w : List ℕ). w ++ 32 ∷ behind) (sym spelled.0)
