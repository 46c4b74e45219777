use Rattle.std.proofs.Common.{◌∙◌, sym, ap, Some}
use Rattle.std.specs.Option.{option_copied}
use Rattle.census.specs.Counts.{dominant_among}
use Rattle.census.proofs.DominanceLemmas.{dominant-best}
use Rattle.census.proofs.genotypes.dominant.Goals as goal

pub returns-in_err-first : goal.returns-in_err-first
unfolding dominant_among
returns-in_err-first c =
    ap option_copied c.from_residual.ensures
    ∙ ap dominant_among (sym c.in_err-first.ensures.steps.0 ∙ c.values-rest.ensures.rest)

pub returns : goal.returns
returns c =
    ap Some c.best_of.ensures
    ∙ sym (dominant-best c.in_ok-first.first.now c.next.new.self)
    ∙ ap dominant_among (sym c.in_ok-first.ensures.steps ∙ c.values-rest.ensures.rest)
