use Rattle.std.proofs.Common.{◌∙◌, ap}
use Rattle.std.specs.Ordering.{is_lt, ordering_then}
use Rattle.census.proofs.LetterLemmas.{genome_cmp}
use Rattle.census.proofs.genotype.Genotype.outranks.Goals as goal

pub returns : goal.returns
returns c =
    let by_letters =
    c.cmp.ensures ∙ genome_cmp c.self.inside.genome.value c.other.inside.genome.value in
    rw (← c.self.view_is, ← c.other.view_is)
    (c.is_lt.ensures ∙ ap is_lt
    (c.then.ensures ∙ (λ i. ordering_then (c.cmp-by_count.ensures i) (by_letters i))))
