-- Packed genomes are equal exactly where their letters are.
use Rattle.std.proofs.Common.{◌≡◌, ◌∙◌, refl, sym, ap}
use Rattle.genotype_bank.proofs.Prelude.{Decides, Decides-eqb, same_from_decides, same_letters, letters_of, packed, unpacked}
use Rattle.std.proofs.lemmas.Slice.Eq.{slice_eq-Decides}
use Rattle.genotype_bank.specs.declared.packed_genome.PackedGenome.{PackedGenome}
use Rattle.genotype_bank.specs.contracts.packed_genome.PackedGenomePartialEq.TheImpl.{ghosts}
use Rattle.genotype_bank.proofs.DifferentLemmas.{OneList}

-- they are compared by their words
eq-words : (a b : PackedGenome) → Decides (ghosts.eq a b) (a.words.items ≡ b.words.items)
eq-words a b = slice_eq-Decides Decides-eqb a.words.items b.words.items _ refl

-- the same letters have the same words
same-words : (a b : PackedGenome) → letters_of a ≡ letters_of b → a.words.items ≡ b.words.items
same-words a b same = sym a.one_form ∙ ap packed same ∙ b.one_form

-- two packed genomes are equal exactly where their letters are the same
pub packed_eq : OneList → (a b : PackedGenome)
    → ghosts.eq a b ≡ same_letters (letters_of a) (letters_of b)
packed_eq one_list a b =
    let words = eq-words a b in
    same_from_decides {P = letters_of a ≡ letters_of b} (ghosts.eq a b)
    (same_letters (letters_of a) (letters_of b))
    (λ t. ap unpacked (words.0 t), λ same. words.1 (same-words a b same))
    (one_list (letters_of a) (letters_of b))
