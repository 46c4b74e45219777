use Rattle.std.proofs.Common.{◌∙◌, ap, arith}
use Rattle.std.specs.Prelude.{count_by}
use Rattle.virtual_cpu.proofs.Prelude.{take_all}
use Rattle.virtual_cpu.specs.SiteLists.{mark_by}
use Rattle.virtual_cpu.proofs.SiteLemmas.{counted}
use Rattle.virtual_cpu.proofs.sites.count_marked.Goals as goal

pub returns-clause-count : goal.returns-clause-count
returns-clause-count c = c.loop-site.invariant.count
    ∙ ap (count_by (mark_by c.args.copied))
    (take_all c.loop-site.site-index c.args.sites.now (omega arith))
    ∙ counted (mark_by c.args.copied) c.args.sites.now
