-- The chain over the lines.
use Rattle.std.proofs.Common.{rules, tests, ◌∙◌}
use Rattle.std.proofs.lemmas.Iterator.Search.{position_from_yields_List}
use Rattle.std.proofs.lemmas.Iterator.Adapters.{position_from-zero}
use Rattle.std.proofs.lemmas.Iterator.Splits.{YieldsList-from_slice_split}
use Rattle.genome.specs.GenomeText.{is_bad_line, name_lines}
use Rattle.genome.proofs.names.first_bad_line.Goals as goal

pub returns-clause-place : goal.returns-clause-place
returns-clause-place c =
    position_from_yields_List is_bad_line _ _ c.position.result c.position.ensures.ran
    (YieldsList-from_slice_split _ _ c.args.bytes.now c.split.ensures.rest c.split.ensures.done
    c.split.ensures.closure (λ x r q k. search (rules, tests))) (λ x b q k. search (rules, tests))
    ∙ position_from-zero is_bad_line (name_lines c.args.bytes.now)
