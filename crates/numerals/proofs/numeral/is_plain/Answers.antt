use Rattle.std.proofs.Common.{◌<◌, arith}
use Rattle.numerals.specs.Numeral.{digits_len}
use Rattle.numerals.proofs.DigitLemmas.{plain_is}
use Rattle.numerals.proofs.numeral.is_plain.Goals as goal

pub returns-in_default : goal.returns-in_default
returns-in_default c =
    let more : 1 < digits_len c.args.text.now = omega arith in
    plain_is c.args.text.now more
