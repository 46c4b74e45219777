use Rattle.std.proofs.Common.{◌∙◌, sym, ap, refl, None}
use Rattle.std.specs.Option.{option_copied}
use Rattle.census.specs.Counts.{Counts}
use Rattle.census.proofs.DominanceLemmas.{dominant-none, dominant-some, not_ok}
use Rattle.census.proofs.census.Census.dominant.Goals as goal

pub returns-in_err-dominant-in-Some-clause-none : goal.returns-in_err-dominant-in-Some-clause-none
returns-in_err-dominant-in-Some-clause-none c =
    let same = ap (λ (counts : Counts). counts.genotypes) c.self.view_is in (
      λ is. absurd (not_ok c.from_residual.result None c.from_residual.ensures.0 is),
      λ empty. absurd (dominant-some c.self.inside.genotypes.entries c.in-Some.genotype.now
          (sym c.dominant.ensures ∙ ap option_copied c.in-Some.is) (same ∙ empty)),
    )

pub returns-in_ok-dominant-in-Some-clause-none : goal.returns-in_ok-dominant-in-Some-clause-none
returns-in_ok-dominant-in-Some-clause-none c =
    let same = ap (λ (counts : Counts). counts.genotypes) c.self.view_is in (
      λ is. cc,
      λ empty. absurd
          (dominant-some c.self.inside.genotypes.entries c.in-Some.genotype.now
          (sym c.dominant.ensures ∙ ap option_copied c.in-Some.is) (same ∙ empty)),
    )

pub returns-in-None-clause-none : goal.returns-in-None-clause-none
returns-in-None-clause-none c =
    let same = ap (λ (counts : Counts). counts.genotypes) c.self.view_is in (
      λ is. sym same ∙ dominant-none c.self.inside.genotypes.entries
          (sym c.dominant.ensures ∙ ap option_copied c.in-None.is),
      λ empty. refl,
    )
