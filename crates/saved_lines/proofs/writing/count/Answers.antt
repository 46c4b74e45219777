use Rattle.std.proofs.Common.{◌∙◌, ◌∷◌, ◌++◌, [], ℕ, List, decimal, append-nil, append_assoc, sym, ap}
use Rattle.saved_lines.proofs.TextLemmas.{OnOk_then}
use Rattle.saved_lines.proofs.writing.count.Goals as goal

pub returns-clause-ok : goal.returns-clause-ok
returns-clause-ok c =
    let old = c.args.out.now.items in
    let word : List ℕ = 32 ∷ decimal c.args.organisms in
    OnOk_then c.write_number.result c.write_number.ensures.ok (λ grown. grown
    ∙ ap (λ (l : List ℕ). l ++ word) c.in_ok-write_byte.ensures.ok
    ∙ append_assoc old (90 ∷ []) word
    ∙ ap (λ (l : List ℕ). old ++ 90 ∷ l) (sym (append-nil word)))
