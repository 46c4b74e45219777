use Rattle.std.proofs.Common.{◌≡◌, ◌*◌, length, sum, replicate, ap, arith, eqb}
use Rattle.std.proofs.lemmas.Bool.{cond_both, eqb-true, eqb-false}
use Rattle.std.proofs.lemmas.List.Folds.{sum_by-replicate}
use Rattle.merit_slices.specs.Slices.{living_in, shares_of, slices_of}
use Rattle.merit_slices.proofs.SliceLemmas.{living-le-sum, sum-shares_of}
use Rattle.merit_slices.proofs.laws.slices_are_all_steps.Goals as goal

pub returns : goal.returns
unfolding slices_of
returns c = λ merits average. cond_both (eqb (sum merits) 0) (replicate (length merits) 0)
    (shares_of merits (average * living_in merits)) (λ slices. sum slices ≡ average * living_in merits)
    (λ none.
    let nobody : living_in merits ≡ 0 =
    omega (arith, living-le-sum merits, eqb-true (sum merits) 0 none) in
    omega (arith, sum_by-replicate (λ x. x) (length merits) 0, ap (λ n. average * n) nobody))
    (λ some. sum-shares_of merits (average * living_in merits)
    (omega (arith, eqb-false (sum merits) 0 some)))
