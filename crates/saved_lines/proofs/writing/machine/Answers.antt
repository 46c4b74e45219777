use Rattle.std.proofs.Common.{◌∙◌, ◌∷◌, ◌++◌, [], ℕ, List, map, decimal, append_assoc, sym, ap}
use Rattle.saved_lines.proofs.Prelude.{words_text, machine_words, nops_text, signed_words}
use Rattle.saved_lines.proofs.TextLemmas.{OnOk_then, four_texts, image_texts, machine_line}
use Rattle.saved_lines.proofs.writing.machine.Goals as goal

pub returns-clause-ok : goal.returns-clause-ok
returns-clause-ok c =
    let old = c.args.out.now.items in
    let image = c.args.image.now in
    let r = words_text (signed_words image.registers) in
    let words : List ℕ → List ℕ = λ ns. words_text (map (λ (n : ℕ). decimal n) ns) in
    let n = words c.machine_numbers.result in
    let s = words_text (nops_text image.nops
    ∷ (signed_words image.first ++ signed_words image.second)) in
    let t = words_text (image_texts image) in
    let o = old ++ 77 ∷ [] in
    OnOk_then c.texts.result c.texts.ensures.ok (λ grown. grown
    ∙ ap (λ (l : List ℕ). l ++ t) (c.in_ok-nops_and_stacks.ensures.ok
    ∙ ap (λ (l : List ℕ). l ++ s) (c.in_ok-write_numbers.ensures.ok
    ∙ ap (λ (l : List ℕ). l ++ n) (c.in_ok-integers.ensures.ok
    ∙ ap (λ (l : List ℕ). l ++ r) c.in_ok-write_byte.ensures.ok)))
    ∙ four_texts o r n s t
    ∙ ap (λ (ns : List ℕ). o ++ (r ++ (words ns ++ (s ++ t)))) c.machine_numbers.ensures
    ∙ ap (λ (l : List ℕ). o ++ l) (sym (machine_line image))
    ∙ append_assoc old (77 ∷ []) (words_text (machine_words image)))
