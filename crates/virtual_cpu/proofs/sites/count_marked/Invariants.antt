use Rattle.std.proofs.Common.{◌≡◌, ◌≤◌, take}
use Rattle.std.specs.Prelude.{count_by}
use Rattle.virtual_cpu.specs.SiteLists.{mark_by}
use Rattle.virtual_cpu.proofs.sites.count_marked.Given as goal

-- the count so far
abbrev pub invariant-loop-site : goal.invariant-loop-site
invariant-loop-site l = record {
  count : l.count ≡ count_by (mark_by l.copied) (take l.site-index l.sites);
  bound : l.count ≤ l.site-index;
}
