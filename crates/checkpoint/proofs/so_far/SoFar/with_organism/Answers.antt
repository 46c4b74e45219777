use Rattle.std.proofs.Common.{List, ap, ◌∙◌}
use Rattle.checkpoint.proofs.Prelude.{values_of_organism, Resident, SoFarValue, so_far_of}
use Rattle.checkpoint.proofs.SoFarLemmas.{kept_more, so_far_more}
use Rattle.checkpoint.proofs.so_far.SoFar.with_organism.Goals as goal

pub invariant_of-result : goal.invariant_of-result
invariant_of-result c =
    let head = c.self.inside.head in
    let before = c.self.inside.residents.items in
    let so_far : SoFarValue = so_far_of head before in
    let o = values_of_organism c.args.line in
    let cpu = c.args.cpu in
    let stands = rw (← c.self.view_is) at c.requires.stands in
    let follows = rw (← c.self.view_is) at c.requires.follows in
    let kept = kept_more so_far c.self.inside.next_cell c.self.inside.ids c.insert.new.self o cpu
    c.self.invariant stands follows c.requires.organism c.requires.machine
    c.in_ok-insert.ensures.updates in
    let value = ap (λ (l : List Resident). so_far_of head l) c.in_ok-push.ensures.items
    ∙ so_far_more head before c.in_ok-resident_of.field-0 o cpu
    c.in_ok-resident_of.ensures.organism c.in_ok-resident_of.ensures.cpu in
    rw (c.from-next_cell.ensures, value) kept
