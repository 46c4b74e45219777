use Rattle.std.proofs.Common.{◌≡◌, ◌∷◌, ◌∙◌, ℕ, List, [], Option, Bor, ap}
use Rattle.std.specs.Prelude.{◌==◌, option_copied}
use Rattle.log_lines.proofs.Prelude.{pieces_of, slice_split}
use Rattle.log_lines.proofs.BirthFrontLemmas.{only_piece}
use Rattle.log_lines.proofs.front.read_front.Goals as goal

pub returns-in_default-None : goal.returns-in_default-None
returns-in_default-None c =
    let piece = c.split_at.result.0.now in
    let alone : slice_split (λ b. b == 10) c.args.text.now ≡ piece ∷ [] =
    c.split_at.ensures.pieces ∙ ap (λ (o : Option (Bor (List ℕ))).
    piece ∷ pieces_of 10 (option_copied o)) c.in_default-None.is-1 in
    alone ∙ ap (λ (p : List ℕ). p ∷ []) (only_piece 10 c.args.text.now piece alone)
