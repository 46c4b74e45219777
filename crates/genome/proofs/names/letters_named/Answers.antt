-- The chain over the lines.
use Rattle.std.proofs.Common.{rules, tests, ◌∙◌, ap}
use Rattle.std.specs.Slice.Iter as slice
use Rattle.std.proofs.lemmas.Iterator.{items_from_collect}
use Rattle.std.proofs.lemmas.Iterator.Consumers.{YieldsList-from_filter_map}
use Rattle.std.proofs.lemmas.Iterator.Splits.{YieldsList-from_slice_split}
use Rattle.instruction_set.specs.Letter.{letter_named}
use Rattle.genome.specs.GenomeText.{word_of_line}
use Rattle.genome.proofs.names.letters_named.Goals as goal

pub returns : goal.returns
returns c = items_from_collect _ c.collect.ensures.ran
    (YieldsList-from_filter_map _ (λ line. letter_named (word_of_line line))
    (YieldsList-from_slice_split _ _ c.args.bytes.now
    (ap slice.split_rest c.filter_map.ensures.source ∙ c.split.ensures.rest)
    (ap slice.split_done c.filter_map.ensures.source ∙ c.split.ensures.done)
    (ap slice.split_callee c.filter_map.ensures.source ∙ c.split.ensures.closure)
    (λ x r q k. search (rules, tests))) c.filter_map.ensures.closure
    (λ x r q k. search (rules, tests)))
