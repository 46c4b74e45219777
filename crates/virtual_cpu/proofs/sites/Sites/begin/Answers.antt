use Rattle.std.proofs.Common.{◌≡◌, ◌∙◌, ap, ◌++◌, map}
use Rattle.std.specs.Prelude.{vec_capacity}
use Rattle.virtual_cpu.proofs.Prelude.{SiteLists, fresh_site, fresh_lists}
use Rattle.virtual_cpu.proofs.SiteLemmas.{lists-fresh}
use Rattle.virtual_cpu.proofs.sites.Sites.begin.Goals as goal

pub returns : goal.returns
returns c =
    let text = c.args.text.now in
    let made : c.append_text.new.items.items ≡ map fresh_site text = c.append_text.ensures.items
    ∙ ap (λ l. l ++ map fresh_site text) c.clear.ensures.items in
    lists-fresh _ text (vec_capacity c.append_text.new.items) made
    ∙ ap (fresh_lists text) (c.append_text.ensures.capacity ∙ c.clear.ensures.capacity
    ∙ ap (λ (l : SiteLists). l.room) c.self.view_is)
