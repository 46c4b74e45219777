use Rattle.std.proofs.Common.{◌∙◌, ◌∷◌, ◌++◌, [], ℕ, List, map, decimal, ap}
use Rattle.saved_lines.proofs.Prelude.{Letter, byte_of, words_text, organism_numbers, organism_text, organism_values}
use Rattle.genome.specs.Genome as genome_spec
use Rattle.genome.specs.declared.genome.Genome.{Genome}
use Rattle.saved_lines.proofs.TextLemmas.{OnOk_then, organism_made}
use Rattle.saved_lines.proofs.writing.organism.Goals as goal

pub returns-clause-ok : goal.returns-clause-ok
unfolding organism_text
returns-clause-ok c =
    let old = c.args.out.now.items in
    let words : List ℕ → List (List ℕ) = λ ns. map (λ (n : ℕ). decimal n) ns in
    let numbers = c.organism_numbers.result in
    let letters = c.letters.result.now in
    let made : List ℕ → List Letter → List ℕ = λ ns ls.
    old ++ ((79 ∷ words_text (words ns ++ map byte_of ls ∷ [])) ++ 10 ∷ []) in
    OnOk_then c.write_byte-2.result c.write_byte-2.ensures.ok (λ last. last
    ∙ ap (λ (l : List ℕ). l ++ 10 ∷ []) (c.in_ok-text.ensures.ok
    ∙ ap (λ (l : List ℕ). l ++ 32 ∷ map byte_of letters) (c.in_ok-write_numbers.ensures.ok
    ∙ ap (λ (l : List ℕ). l ++ words_text (words numbers)) c.in_ok-write_byte.ensures.ok))
    ∙ organism_made old (words numbers) (map byte_of letters)
    ∙ ap (λ (ns : List ℕ). made ns letters) c.organism_numbers.ensures
    ∙ ap (λ (ls : List Letter). made (organism_numbers (organism_values c.args.resident.now)) ls)
    c.letters.ensures.letters
    ∙ ap (λ (g : Genome). made (organism_numbers (organism_values c.args.resident.now))
    (genome_spec.letters g)) c.deref.ensures)
