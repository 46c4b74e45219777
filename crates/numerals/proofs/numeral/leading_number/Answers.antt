use Rattle.std.proofs.Common.{◌∙◌, sym, ap, option_map, arith}
use Rattle.numerals.proofs.DigitLemmas.{number_is, number_not}
use Rattle.numerals.specs.Numeral.{leading_digits}
use Rattle.numerals.proofs.numeral.leading_number.Goals.{else-is_plain-via-then-is_plain+then-least-value+else-value-greatest, else-is_plain-via-then-is_plain+else-least-value, else-is_plain-via-else-is_plain}
use Rattle.numerals.proofs.numeral.leading_number.Goals as goal

pub returns-in_err-value-clause-number : goal.returns-in_err-value-clause-number
returns-in_err-value-clause-number c =
    ap (option_map (λ found. found.0)) c.from_residual.ensures
    ∙ number_not c.args.least c.args.greatest (leading_digits c.args.text.now)
    (λ all numeral low high.
    omega (arith, high, c.in_err-value.ensures, c.ranges.greatest.fits))

pub returns-then-value-greatest-clause-number : goal.returns-then-value-greatest-clause-number
returns-then-value-greatest-clause-number c =
    number_is c.args.least c.args.greatest c.in_ok-value.value (leading_digits c.args.text.now)
    (sym c.is_plain.ensures ∙ c.if-is_plain.true) c.in_ok-value.ensures.0 c.if-least-value.true
    c.if-value-greatest.true

pub returns-else-is_plain-clause-number : goal.returns-else-is_plain-clause-number
returns-else-is_plain-clause-number c =
    number_not c.args.least c.args.greatest (leading_digits c.args.text.now)
    (λ all numeral low high.
    elim c.else-is_plain.branch [
      | else-is_plain-via-then-is_plain+then-least-value+else-value-greatest w ↦ omega
          (arith, c.in_ok-value.ensures.0, high, w.if-value-greatest.false)
      | else-is_plain-via-then-is_plain+else-least-value w ↦ omega
          (arith, c.in_ok-value.ensures.0, low, w.if-least-value.false)
      | else-is_plain-via-else-is_plain w ↦ let e =
          sym c.is_plain.ensures ∙ w.if-is_plain.false in absurd cc
    ])
