use Rattle.std.proofs.Common.{◌<◌, pos, length, append_assoc, arith, rules, get_or}
use Rattle.std.specs.Prelude.{FitsSigned}
use Rattle.saved_lines.proofs.Prelude.{signed_decimal, w32, to_z-of_z, words_text_more}
use Rattle.saved_lines.proofs.writing.integers.Goals as goal

pub loop-number-preserved : goal.loop-number-preserved
loop-number-preserved c =
    let numbers = c.args.numbers.now in
    let i = c.loop-number.number-index in
    let within : i < length numbers = omega arith in
    let more = words_text_more signed_decimal numbers i (pos 0) within in
    let number = get_or numbers i (pos 0) in
    let fits : FitsSigned w32 number = search rules in
    rw (
      c.in_ok-integer.ensures.ok,
      c.loop-number.invariant,
      more,
      append_assoc,
      to_z-of_z w32 number fits,
    )
