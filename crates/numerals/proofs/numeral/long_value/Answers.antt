use Rattle.std.proofs.Common.{◌≡◌, ◌+◌, false, get_or, arith}
use Rattle.std.specs.Char.{is_ascii_digit}
use Rattle.std.proofs.lemmas.List.Sums.{prefix_len-le-length}
use Rattle.std.proofs.lemmas.Bool.Decides.{nat_tests}
use Rattle.numerals.specs.Numeral.{digits_len}
use Rattle.numerals.proofs.DigitLemmas.{digits_more, digits_stop, front_grows, front_value, value_on}
use Rattle.numerals.proofs.numeral.long_value.Goals as goal
use Rattle.numerals.proofs.numeral.long_value.Goals.{then-digit-lt48-via-then-digit-lt48, then-digit-lt48-via-else-digit-lt48+then-digit-gt57}

pub returns-then-digit-lt48 : goal.returns-then-digit-lt48
returns-then-digit-lt48 c =
    let text = c.args.text.now in
    let i = c.loop-at.at in
    let bad : is_ascii_digit (get_or text i 0) ≡ false = elim c.then-digit-lt48.branch [
      | then-digit-lt48-via-then-digit-lt48 w ↦ grind (arith, nat_tests, w.if-digit-lt48.true)
      | then-digit-lt48-via-else-digit-lt48+then-digit-gt57 w ↦ grind
          (arith, nat_tests, w.if-digit-gt57.true)
    ] in
    let stop = digits_stop text i c.loop-at.invariant.digits bad in
    (front_value text i c.loop-at.value stop c.loop-at.invariant.value, omega (arith, stop))

pub returns-in-None : goal.returns-in-None
returns-in-None c =
    let text = c.args.text.now in
    let i = c.loop-at.at in
    let more = value_on text i c.loop-at.value c.loop-at-test.true c.loop-at.invariant.value
    c.if-digit-lt48.false c.if-digit-gt57.false in
    let far = digits_more text i c.loop-at.invariant.digits c.loop-at-test.true
    c.if-digit-lt48.false c.if-digit-gt57.false in
    omega (arith, more, front_grows text (i + 1) far, c.in-None.ensures)

pub loop-at-preserved : goal.loop-at-preserved
loop-at-preserved c =
    let text = c.args.text.now in
    let i = c.loop-at.at in
    let more = value_on text i c.loop-at.value c.loop-at-test.true c.loop-at.invariant.value
    c.if-digit-lt48.false c.if-digit-gt57.false in
    record {
      digits = digits_more text i c.loop-at.invariant.digits c.loop-at-test.true
          c.if-digit-lt48.false c.if-digit-gt57.false;
      value = omega (arith, more, c.in-Some.ensures);
    }

pub returns : goal.returns
returns c =
    let text = c.args.text.now in
    let end : digits_len text ≡ c.loop-at.at =
    omega (
      arith,
      c.loop-at.invariant.digits,
      c.loop-at-test.false,
      prefix_len-le-length is_ascii_digit text,
    ) in (
      front_value text c.loop-at.at c.loop-at.value end c.loop-at.invariant.value,
      omega (arith, end, c.loop-at-test.false, prefix_len-le-length is_ascii_digit text),
    )
