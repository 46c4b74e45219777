use Rattle.std.proofs.Common.{arith, ◌∙◌, sym}
use Rattle.label_search.proofs.Prelude.{NopA}
use Rattle.label_search.proofs.PackedLemmas.{newest-few, newest-at}
use Rattle.label_search.proofs.template.nop_at.Goals as goal

pub overflow_mul-digit : goal.overflow_mul-digit
overflow_mul-digit c = omega (arith, newest-few 10 c.args.packed, c.requires)

pub overflow_cast-digit : goal.overflow_cast-digit
overflow_cast-digit c = omega (arith, newest-few 10 c.args.packed, c.requires)

pub overflow_shr-packed : goal.overflow_shr-packed
overflow_shr-packed c = omega (arith, newest-few 10 c.args.packed, c.requires)

pub returns : goal.returns
returns c = c.nop_of.ensures ∙ sym (newest-at 10 c.args.packed c.args.digit NopA c.requires)
