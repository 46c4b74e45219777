use Rattle.std.proofs.Common.{◌∙◌, ap, sym}
use Rattle.genotype_bank.proofs.Prelude.{packed}
use Rattle.genotype_bank.proofs.PackingLemmas.{has_letters}
use Rattle.genotype_bank.proofs.packed_genome.PackedGenome.pack.Goals as goal

pub invariant_of-result : goal.invariant_of-result
invariant_of-result c = let are = c.in_ok-words.ensures in
    record { one_form = ap packed (has_letters c.letters.result.now _ are) ∙ sym are }

pub returns : goal.returns
returns c = has_letters _ _ c.in_ok-words.ensures ∙ c.letters.ensures.letters
