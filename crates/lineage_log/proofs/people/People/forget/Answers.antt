use Rattle.std.proofs.Common.{◌∙◌, Global, List, Option, None, ap, set, option_map}
use Rattle.lineage_log.proofs.Prelude.{map-set, Letter}
use Rattle.std.specs.declared.rc.Rc.{Rc}
use Rattle.genome.specs.declared.genome.Genome.{Genome}
use Rattle.genome.specs.Genome.{letters}
use Rattle.lineage_log.proofs.people.People.forget.Goals as goal

pub returns-then-place-len : goal.returns-then-place-len
returns-then-place-len c =
    let seen = map-set (λ (found : Option (Rc Genome Global)).
    option_map (λ shared. letters shared.value) found) c.self.inside.genomes.items c.args.id None
    ∙ ap (λ (l : List (Option (List Letter))). set l c.args.id None) c.self.view_is in
    rw c.take-forgotten.ensures.after seen
