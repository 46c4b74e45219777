use Rattle.std.proofs.Common.{◌^◌, ◌<◌, ap, arith}
use Rattle.std.proofs.lemmas.List.Elements.{All-same}
use Rattle.census.specs.Changes.{tasks_without}
use Rattle.census.specs.Counts.{Counts}
use Rattle.census.proofs.TaskLemmas.{fewer-small}
use Rattle.census.proofs.census.Census.renew.Goals as goal

pub raise_tasks-requires : goal.raise_tasks-requires
raise_tasks-requires c =
    let tasks = c.self.inside.tasks in
    let same = ap (λ (counts : Counts). counts.tasks) c.self.view_is in
    All-same (λ count. count < 2 ^ 32) c.lower_tasks.new.counts
    (tasks_without tasks c.args.credited) c.lower_tasks.ensures
    (fewer-small tasks c.args.credited (2 ^ 32) (omega arith)
    (All-same (λ count. count < 2 ^ 32) tasks c.args.self.now.tasks same c.requires.few))
