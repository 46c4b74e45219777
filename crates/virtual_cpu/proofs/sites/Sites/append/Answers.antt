use Rattle.std.proofs.Common.{◌∙◌, ap, arith, ◌++◌, replicate}
use Rattle.std.specs.Prelude.{vec_capacity}
use Rattle.virtual_cpu.proofs.Prelude.{SiteLists, with_places}
use Rattle.virtual_cpu.proofs.SiteLemmas.{length-seen, lists-longer}
use Rattle.virtual_cpu.proofs.sites.Sites.append.Goals as goal

pub append_copies-requires : goal.append_copies-requires
append_copies-requires c =
    let items = c.self.inside.items in
    let long = length-seen items.items (vec_capacity items) c.args.self.now c.self.view_is in
    let room = ap (λ (l : SiteLists). l.room) c.self.view_is in
    omega (arith, long, room)

pub returns-clause-lists : goal.returns-clause-lists
returns-clause-lists c =
    let items = c.self.inside.items.items in
    let longer = c.append_copies.new.items in
    lists-longer items longer.items c.args.count (vec_capacity longer)
    (c.append_copies.ensures.items
    ∙ ap (λ s. items ++ replicate c.args.count s) c.fresh_site.ensures)
    ∙ ap (λ (l : SiteLists). record (with_places l c.args.count) { room = vec_capacity longer })
    c.self.view_is
