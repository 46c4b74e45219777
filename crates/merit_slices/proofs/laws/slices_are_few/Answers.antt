use Rattle.std.proofs.Common.{◌≤◌, length, arith}
use Rattle.std.specs.Prelude.{nat_lt}
use Rattle.std.proofs.Math.Nat.{mul-le-mul_left}
use Rattle.std.proofs.lemmas.List.Sums.{count_by-le-length}
use Rattle.merit_slices.specs.Slices.{living_in}
use Rattle.merit_slices.proofs.laws.slices_are_few.Goals as goal

pub returns : goal.returns
returns c = λ merits average.
    let few : living_in merits ≤ length merits =
    count_by-le-length (λ merit. nat_lt 0 merit) merits in
    omega (arith, c.slices_are_all_steps.ensures merits average, mul-le-mul_left average few)
