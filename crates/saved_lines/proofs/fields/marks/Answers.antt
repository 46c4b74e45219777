use Rattle.std.proofs.Common.{◌≡◌, ◌∙◌, ◌<◌, Bool, List, Some, length, ap, arith}
use Rattle.saved_lines.proofs.Prelude.{nat_tests, each, mark_of}
use Rattle.saved_lines.proofs.EachLemmas.{marks_made}
use Rattle.saved_lines.proofs.fields.marks.Goals as goal

pub returns-in-Some : goal.returns-in-Some
returns-in-Some c =
    let word = c.args.word.now in
    let places = c.in-Some.marks.items in
    let got : Some places ≡ each mark_of word = rw c.in-Some.is at c.in_ok-marks.ensures in
    let some : 0 < length word =
    grind (arith, nat_tests, c.is_empty.ensures, c.if-is_empty.false) in
    ap (λ (l : List Bool). Some l) c.from_vec.ensures ∙ marks_made word places got some
