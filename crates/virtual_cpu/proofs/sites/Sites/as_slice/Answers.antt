use Rattle.std.proofs.Common.{◌∙◌, ap, length}
use Rattle.std.specs.Prelude.{vec_capacity}
use Rattle.virtual_cpu.proofs.Prelude.{letters_of, SiteLists}
use Rattle.virtual_cpu.proofs.SiteLemmas.{length-seen}
use Rattle.virtual_cpu.proofs.sites.Sites.as_slice.Goals as goal

pub returns-clause-letters : goal.returns-clause-letters
returns-clause-letters c = ap letters_of c.as_slice.ensures.value
    ∙ ap (λ (l : SiteLists). l.letters) c.self.view_is

pub returns-clause-length : goal.returns-clause-length
returns-clause-length c = ap length c.as_slice.ensures.value
    ∙ length-seen c.self.inside.items.items (vec_capacity c.self.inside.items) c.args.self.now
    c.self.view_is
