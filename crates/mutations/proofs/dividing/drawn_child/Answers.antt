use Rattle.std.proofs.Common.{ap, arith}
use Rattle.mutations.proofs.Prelude.{common_steps, numbers_of, range_of, Stream}
use Rattle.mutations.proofs.BirthLemmas.{drawn_by_divide-passed}
use Rattle.mutations.proofs.WordLemmas.{drawn_by_divide-words}
use Rattle.mutations.proofs.dividing.drawn_child.Goals as goal

pub returns-clause-passed : goal.returns-clause-passed
returns-clause-passed c =
    drawn_by_divide-passed (numbers_of c.args.rates.now) (range_of c.args.limits.now)
    c.args.clean.now c.args.written.now c.args.draws.now
    (record {
      text = c.in_ok-text.text.items;
      changes = c.in_ok-changes.changes;
      draws = c.pointed_text.new.draws;
    }) _ _
    (record {
      text = c.in_ok-text.ensures.text;
      taken = c.in_ok-text.ensures.taken;
      same_length = c.in_ok-text.ensures.same_length;
      changes = grind (arith, common_steps);
      made = grind (arith, common_steps);
    }) c.in_ok-longer.ensures.passed c.in_ok-child.ensures.passed

pub returns-clause-least : goal.returns-clause-least
returns-clause-least c =
    (drawn_by_divide-words _ _ _ _ _ c.args.written.now _
    (ap (λ (s : Stream). s.taken) (returns-clause-passed c).taken)).0

pub returns-clause-most : goal.returns-clause-most
returns-clause-most c =
    (drawn_by_divide-words _ _ _ _ _ c.args.written.now _
    (ap (λ (s : Stream). s.taken) (returns-clause-passed c).taken)).1
