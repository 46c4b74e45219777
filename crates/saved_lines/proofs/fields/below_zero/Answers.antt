use Rattle.std.proofs.Common.{◌∙◌, ℤ, Some, sym, ap, arith}
use Rattle.std.specs.Prelude.{option_map}
use Rattle.saved_lines.specs.SavedFields as saved_fields
use Rattle.saved_lines.proofs.SignedLemmas.{made_below_zero}
use Rattle.saved_lines.proofs.RangeLemmas.{number_within}
use Rattle.saved_lines.proofs.fields.below_zero.Goals as goal

pub overflow_sub-result : goal.overflow_sub-result
overflow_sub-result c =
    (number_within 1 2147483648 c.in_ok-size.size c.args.digits.now
    (sym c.in_ok-size.ensures.number)).0

pub overflow_cast-result : goal.overflow_cast-result
overflow_cast-result c =
    let bounds = number_within 1 2147483648 c.in_ok-size.size c.args.digits.now
    (sym c.in_ok-size.ensures.number) in
    record { sfits = omega (arith, bounds.0, bounds.1) }

pub returns : goal.returns
returns c =
    let bounds = number_within 1 2147483648 c.in_ok-size.size c.args.digits.now
    (sym c.in_ok-size.ensures.number) in
    ap (λ (z : ℤ). Some z) (made_below_zero c.in_ok-size.size bounds.0 bounds.1)
    ∙ ap (option_map saved_fields.below_zero) c.in_ok-size.ensures.number
