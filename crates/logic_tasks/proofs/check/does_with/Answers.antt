use Rattle.std.proofs.Common.{◌≡◌, ◌∙◌, sym, length, false}
use Rattle.logic_tasks.specs.LogicTasks.{does_pair}
use Rattle.logic_tasks.proofs.PairLemmas.{list_any-next}
use Rattle.logic_tasks.proofs.check.does_with.Goals as goal

pub loop-second-preserved : goal.loop-second-preserved
loop-second-preserved c =
    let known = c.args.known.now in
    let next = list_any-next (does_pair c.args.task c.args.output known c.args.first)
    c.loop-second.second (length known) c.loop-second-test.true in
    let elsewhere : does_pair c.args.task c.args.output known c.args.first c.loop-second.second
    ≡ false = sym c.does_pair.ensures ∙ c.if-does_pair.false in
    sym (rw elsewhere at next) ∙ c.loop-second.invariant
