use Rattle.std.proofs.Common.{◌∙◌, sym}
use Rattle.numerals.proofs.DigitLemmas.{no_number, part_number, whole_number}
use Rattle.numerals.proofs.numeral.number.Goals as goal

pub returns-then-len-text-clause-number : goal.returns-then-len-text-clause-number
returns-then-len-text-clause-number c =
    let found = c.in-Some.ensures in
    found.number ∙ whole_number c.args.least c.args.greatest c.args.text.now
    (sym found.len ∙ c.if-len-text.true)

pub returns-else-len-text-clause-number : goal.returns-else-len-text-clause-number
returns-else-len-text-clause-number c =
    part_number c.args.least c.args.greatest c.args.text.now
    (λ all. c.if-len-text.false (c.in-Some.ensures.len ∙ all))

pub returns-in-None-clause-number : goal.returns-in-None-clause-number
returns-in-None-clause-number c =
    no_number c.args.least c.args.greatest c.args.text.now c.in-None.ensures.number
