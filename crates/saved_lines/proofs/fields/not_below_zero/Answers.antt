use Rattle.std.proofs.Common.{◌∙◌, ℤ, pos, Some, sym, ap, arith}
use Rattle.std.specs.Prelude.{option_map}
use Rattle.saved_lines.proofs.SignedLemmas.{made_plain}
use Rattle.saved_lines.proofs.RangeLemmas.{number_within}
use Rattle.saved_lines.proofs.fields.not_below_zero.Goals as goal

pub overflow_cast-result : goal.overflow_cast-result
overflow_cast-result c =
    let bounds = number_within 0 2147483647 c.in_ok-size.size c.args.word.now
    (sym c.in_ok-size.ensures.number) in
    record { sfits = omega (arith, bounds.1) }

pub returns : goal.returns
returns c =
    let bounds = number_within 0 2147483647 c.in_ok-size.size c.args.word.now
    (sym c.in_ok-size.ensures.number) in
    ap (λ (z : ℤ). Some z) (made_plain c.in_ok-size.size bounds.1)
    ∙ ap (option_map pos) c.in_ok-size.ensures.number
