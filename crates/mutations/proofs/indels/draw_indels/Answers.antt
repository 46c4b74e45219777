use Rattle.std.proofs.Common.{◌∙◌, ap, ℕ}
use Rattle.mutations.proofs.Prelude.{test_at, numbers_of, range_of}
use Rattle.mutations.proofs.IndelPasses.{indels-passed}
use Rattle.mutations.proofs.indels.draw_indels.Goals as goal

pub returns-clause-passed : goal.returns-clause-passed
returns-clause-passed c =
    let range = range_of c.args.limits.now in
    let test = λ (rate : ℕ). test_at c.args.kind rate range in
    indels-passed c.args.kind (numbers_of c.args.rates.now) range c.test_at-each.result
    c.test_at-single.result
    (record {
      text = c.args.text.items;
      changes = c.args.changes.now;
      draws = c.args.draws.now;
    })
    (record {
      text = c.in_ok-made.made.items;
      changes = c.draw_at_sites.new.changes;
      draws = c.draw_at_sites.new.draws;
    }) _ (c.test_at-each.ensures ∙ ap test c.site_rate.ensures.rate)
    (c.test_at-single.ensures ∙ ap test c.single_rate.ensures.rate) c.in_ok-made.ensures.passed
    c.in_ok-draw_once.ensures.passed
