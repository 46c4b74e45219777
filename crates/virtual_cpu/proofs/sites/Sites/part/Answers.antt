use Rattle.std.proofs.Common.{ap}
use Rattle.virtual_cpu.proofs.Prelude.{Site, SiteLists}
use Rattle.virtual_cpu.proofs.SiteLemmas.{part}
use Rattle.virtual_cpu.proofs.sites.Sites.part.Goals as goal

pub returns-clause-letters : goal.returns-clause-letters
returns-clause-letters c = part (λ (s : Site). s.letter) _ _ _ c.args.from _ c.deref.ensures.value
    (ap (λ (l : SiteLists). l.letters) c.self.view_is)

pub returns-clause-clean : goal.returns-clause-clean
returns-clause-clean c = part (λ (s : Site). s.clean) _ _ _ c.args.from _ c.deref.ensures.value
    (ap (λ (l : SiteLists). l.clean) c.self.view_is)

pub returns-clause-copied : goal.returns-clause-copied
returns-clause-copied c = part (λ (s : Site). s.copied) _ _ _ c.args.from _ c.deref.ensures.value
    (ap (λ (l : SiteLists). l.copied) c.self.view_is)
