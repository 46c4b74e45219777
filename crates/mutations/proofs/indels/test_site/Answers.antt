use Rattle.std.proofs.Common.{arith, refl, ◌+◌, length}
use Rattle.mutations.proofs.Prelude.{common_steps, Deletion}
use Rattle.mutations.proofs.IndelPasses.{Passed-site}
use Rattle.mutations.proofs.indels.test_site.Goals as goal

pub returns-in_ok-push-in-Deletion-clause-passed :
    goal.returns-in_ok-push-in-Deletion-clause-passed
returns-in_ok-push-in-Deletion-clause-passed c = λ rest size.
    Passed-site c.args.test.now Deletion
    (record {
      text = c.args.made.now.items;
      changes = c.args.changes.now;
      draws = c.args.draws.now;
    })
    (record {
      text = c.args.made.now.items;
      changes = c.push-in-Deletion.new.self;
      draws = c.hits.new.draws;
    }) c.args.letter rest (length c.args.made.now.items + c.args.left) c.in-Deletion.is
    (omega (arith, size)) c.requires.fits (grind (arith, common_steps)) refl
    (record { changes = grind (arith, common_steps); draws = c.hits.ensures.taken })
