use Rattle.std.proofs.Common.{◌≡◌, ◌<◌, ◌≤◌, false, get_or, length, arith}
use Rattle.std.specs.Char.{is_ascii_digit}
use Rattle.std.proofs.lemmas.List.Sums.{prefix_len-le-length}
use Rattle.std.proofs.lemmas.Bool.Decides.{nat_tests}
use Rattle.numerals.specs.Numeral.{digits_len}
use Rattle.numerals.proofs.DigitLemmas.{digits_more, digits_stop, front_value, power_more, value_on}
use Rattle.numerals.proofs.numeral.short_value.Goals as goal

pub returns-then-digit-gt9 : goal.returns-then-digit-gt9
returns-then-digit-gt9 c =
    let text = c.args.text.now in
    let i = c.loop-len.len in
    let bad : is_ascii_digit (get_or text i 0) ≡ false =
    grind (arith, nat_tests, (c.type_inv.text i).fits, c.from-in-loop-len.ensures, c.from.ensures, c.if-digit-gt9.true) in
    let stop = digits_stop text i c.loop-len.invariant.digits bad in
    record {
      value = front_value text i c.loop-len.value stop c.loop-len.invariant.value;
      len = omega (arith, stop);
    }

pub loop-len-preserved : goal.loop-len-preserved
loop-len-preserved c =
    let text = c.args.text.now in
    let i = c.loop-len.len in
    let within : i < length text = omega arith in
    let byte : get_or text i 0 < 256 = (c.type_inv.text i).fits in
    let low : 48 ≤ get_or text i 0 = omega (arith, byte) in
    let high : get_or text i 0 ≤ 57 = omega (arith, byte) in
    let more = value_on text i c.loop-len.value within c.loop-len.invariant.value low high in
    record {
      digits = digits_more text i c.loop-len.invariant.digits within low high;
      value = omega (arith, more);
      fits = omega (arith, power_more i, c.loop-len.invariant.fits);
    }

pub returns : goal.returns
returns c =
    let text = c.args.text.now in
    let end : digits_len text ≡ c.loop-len.len =
    omega (
      arith,
      c.loop-len.invariant.digits,
      c.loop-len-test.false,
      prefix_len-le-length is_ascii_digit text,
    ) in
    record {
      value = front_value text c.loop-len.len c.loop-len.value end c.loop-len.invariant.value;
      len = omega (arith, end, c.loop-len-test.false, prefix_len-le-length is_ascii_digit text);
    }
