use Rattle.std.proofs.Common.{◌≡◌, Option, subst, option_map}
use Rattle.std.specs.Prelude.{IfOk}
use Rattle.log_lines.proofs.Prelude.{Line, line_values}
use Rattle.log_lines.proofs.FrontLemmas.{blank_mark, long_marked, marked, short_line}
use Rattle.log_lines.proofs.reading.read_line.Goals.{else-part-eq32-via-then-part-eq32+else-mark-ne32, else-part-eq32-via-else-part-eq32}
use Rattle.log_lines.proofs.reading.read_line.Goals as goal

pub returns-in_default : goal.returns-in_default
returns-in_default c = short_line c.args.text.now c.in_default.len_below

pub returns-then-mark-ne32 : goal.returns-then-mark-ne32
returns-then-mark-ne32 c =
    let is =
    marked c.args.text.now c.in-len2-up.len_at_least c.if-part-eq32.true c.if-mark-ne32.true in
    subst (λ (o : Option Line). IfOk c.read_form.result (λ found. option_map line_values found ≡ o))
    is c.read_form.ensures

pub returns-else-part-eq32 : goal.returns-else-part-eq32
returns-else-part-eq32 c = elim c.else-part-eq32.branch [
  | else-part-eq32-via-then-part-eq32+else-mark-ne32 w ↦ blank_mark c.args.text.now
      c.in-len2-up.len_at_least w.if-mark-ne32.false
  | else-part-eq32-via-else-part-eq32 w ↦ long_marked c.args.text.now c.in-len2-up.len_at_least
      w.if-part-eq32.false
]
