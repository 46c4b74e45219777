use Rattle.std.proofs.Common.{◌≡◌, ◌∙◌, ap, arith, get_or, set}
use Rattle.std.specs.Prelude.{vec_capacity}
use Rattle.virtual_cpu.proofs.Prelude.{common_steps, Site, lists_in}
use Rattle.virtual_cpu.proofs.SiteLemmas.{length-seen, lists-copied}
use Rattle.virtual_cpu.proofs.sites.Sites.copy.Goals as goal

pub index_mut-site-requires : goal.index_mut-site-requires
index_mut-site-requires c =
    let items = c.self.inside.items in
    let long = length-seen items.items (vec_capacity items) c.args.self.now c.self.view_is in
    grind (arith, common_steps, long)

pub returns : goal.returns
returns c =
    let items = c.self.inside.items.items in
    let room = vec_capacity c.self.inside.items in
    let site = c.index_mut-site.result.now in
    let long = length-seen items room c.args.self.now c.self.view_is in
    let read : site ≡ get_or items c.args.place site = grind (arith, common_steps) in
    ap (λ (s : Site). lists_in (set items c.args.place s) room) c.copy.ensures
    ∙ lists-copied items c.args.place site room c.args.self.now c.self.view_is c.requires read
    c.args.letter c.args.clean
