use Rattle.std.proofs.Common.{◌∙◌, ◌∷◌, ◌++◌, [], ℕ, List, map, decimal, append_assoc, ap}
use Rattle.saved_lines.proofs.Prelude.{words_text}
use Rattle.saved_lines.proofs.TextLemmas.{OnOk_then}
use Rattle.saved_lines.proofs.writing.head.Goals as goal

pub returns-clause-ok : goal.returns-clause-ok
returns-clause-ok c =
    let old = c.args.out.now.items in
    let words : List ℕ → List ℕ = λ ns. words_text (map (λ (n : ℕ). decimal n) ns) in
    let numbers = c.head_numbers.result in
    OnOk_then c.write_numbers.result c.write_numbers.ensures.ok (λ grown. grown
    ∙ ap (λ (l : List ℕ). l ++ words numbers) c.in_ok-write_byte.ensures.ok
    ∙ append_assoc old (83 ∷ []) (words numbers)
    ∙ ap (λ (ns : List ℕ). old ++ 83 ∷ words ns) c.head_numbers.ensures)
