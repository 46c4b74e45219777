use Rattle.std.proofs.Common.{◌∙◌, sym, ap, List, take}
use Rattle.virtual_cpu.proofs.Prelude.{take-map, Site, count_of, SiteLists, executed_of}
use Rattle.virtual_cpu.proofs.sites.Sites.count_executed.Goals as goal

pub returns-clause-count : goal.returns-clause-count
returns-clause-count c = c.count_marked.ensures.count
    ∙ ap count_of (sym (take-map (λ (s : Site). s.executed) c.args.end c.deref.result.now))
    ∙ ap (λ (s : List Site). count_of (take c.args.end (executed_of s))) c.deref.ensures.value
    ∙ ap (λ (l : SiteLists). count_of (take c.args.end l.executed)) c.self.view_is
