use Rattle.std.proofs.Common.{◌∙◌, sym, arith, true, false}
use Rattle.label_search.proofs.SearchLemmas.{compared}
use Rattle.label_search.proofs.search.begins_with.Goals as goal

pub returns-then-not-same_letter : goal.returns-then-not-same_letter
returns-then-not-same_letter c =
    sym (compared c.args.what.now c.args.sites.now c.loop-at.at c.letter_at.result false
    c.loop-at-test.true (omega arith) c.letter_at.ensures
    (sym c.if-not-same_letter.true ∙ c.same_letter.ensures)) ∙ c.loop-at.invariant.rest

pub loop-at-preserved : goal.loop-at-preserved
loop-at-preserved c = record {
  within = omega arith;
  rest = sym (compared c.args.what.now c.args.sites.now c.loop-at.at c.letter_at.result true
      c.loop-at-test.true (omega arith) c.letter_at.ensures
      (sym c.if-not-same_letter.false ∙ c.same_letter.ensures)) ∙ c.loop-at.invariant.rest;
}
