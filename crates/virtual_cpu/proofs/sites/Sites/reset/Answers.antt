use Rattle.std.proofs.Common.{◌∙◌, ap, map, take}
use Rattle.std.specs.Prelude.{vec_capacity}
use Rattle.virtual_cpu.proofs.Prelude.{Site, letters_of, SiteLists, fresh_site, fresh_lists}
use Rattle.virtual_cpu.proofs.SiteLemmas.{lists-reset}
use Rattle.virtual_cpu.proofs.sites.Sites.reset.Goals as goal

pub returns : goal.returns
returns c =
    let items = c.self.inside.items.items in
    let kept = c.refresh.new.items in
    lists-reset items kept.items c.args.keep (vec_capacity kept)
    (c.refresh.ensures.items
    ∙ ap (map (λ (s : Site). fresh_site s.letter)) c.truncate.ensures.items)
    ∙ ap (fresh_lists (take c.args.keep (letters_of items)))
    (c.refresh.ensures.capacity ∙ c.truncate.ensures.capacity)
    ∙ ap (λ (l : SiteLists). fresh_lists (take c.args.keep l.letters) l.room) c.self.view_is
