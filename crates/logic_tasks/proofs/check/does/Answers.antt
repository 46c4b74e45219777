use Rattle.std.proofs.Common.{◌≡◌, ◌∙◌, sym, length, false}
use Rattle.logic_tasks.specs.LogicTasks.{does_with}
use Rattle.logic_tasks.proofs.PairLemmas.{list_any-next}
use Rattle.logic_tasks.proofs.check.does.Goals as goal

pub loop-first-preserved : goal.loop-first-preserved
loop-first-preserved c =
    let known = c.args.known.now in
    let next = list_any-next (does_with c.args.task c.args.output known) c.loop-first.first
    (length known) c.loop-first-test.true in
    let elsewhere : does_with c.args.task c.args.output known c.loop-first.first ≡ false =
    sym c.does_with.ensures ∙ c.if-does_with.false in
    sym (rw elsewhere at next) ∙ c.loop-first.invariant
