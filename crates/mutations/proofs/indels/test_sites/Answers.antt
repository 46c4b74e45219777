use Rattle.std.proofs.Common.{◌≡◌, ◌+◌, arith, [], drop, length-drop}
use Rattle.mutations.proofs.Prelude.{common_steps}
use Rattle.mutations.proofs.IndelPasses.{IndelsLeft-step, IndelsLeft-end}
use Rattle.mutations.proofs.indels.test_sites.Goals as goal

pub loop-tested-preserved : goal.loop-tested-preserved
loop-tested-preserved c =
    let rest = drop (c.loop-tested.tested + 1) c.args.text.now in
    let fits = c.in_ok-test_site.ensures.fits in
    record {
      walk = IndelsLeft-step c.args.test.now _ _
          (record {
            text = c.loop-tested.made.items;
            changes = c.loop-tested.changes;
            draws = c.loop-tested.draws;
          })
          (record {
            text = c.test_site.new.made.items;
            changes = c.test_site.new.changes;
            draws = c.test_site.new.draws;
          }) c.args.text.now c.loop-tested.tested c.loop-tested-test.true
          (c.in_ok-test_site.ensures.passed rest
          (omega (arith, length-drop (c.loop-tested.tested + 1) c.args.text.now)))
          c.loop-tested.invariant.walk;
      fits = record {
        shortest = fits.shortest;
        least = omega (arith, fits.least);
        greatest = omega (arith, fits.greatest);
        longest = fits.longest;
      };
      most = omega arith;
    }

pub returns-clause-passed : goal.returns-clause-passed
returns-clause-passed c =
    let none : drop c.loop-tested.tested c.args.text.now ≡ [] = grind (arith, common_steps) in
    IndelsLeft-end c.args.test.now _ _ _ _ none c.loop-tested.invariant.walk
