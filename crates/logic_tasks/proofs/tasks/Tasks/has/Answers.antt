use Rattle.std.proofs.Common.{◌∙◌, ◌<◌, sym, ap, ◌==◌, arith, false, get_or}
use Rattle.std.proofs.lemmas.Nat.Bits.{shr_and_one}
use Rattle.logic_tasks.specs.TaskBitsLaws.{get_or-tasks_of}
use Rattle.logic_tasks.proofs.TaskBitsLemmas.{place_of-small}
use Rattle.logic_tasks.proofs.tasks.Tasks.has.Goals as goal

pub returns : goal.returns
returns c =
    let small : c.place.result < 9 = omega (arith, place_of-small c.args.task) in
    ap (λ b. b == 1) (shr_and_one c.self.inside.bits c.place.result)
    ∙ sym (get_or-tasks_of c.self.inside.bits c.place.result small)
    ∙ ap (λ tasks. get_or tasks c.place.result false) c.self.view_is
    ∙ ap (λ n. get_or c.args.self n false) c.place.ensures
