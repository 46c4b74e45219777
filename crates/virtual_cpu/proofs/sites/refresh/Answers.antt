use Rattle.std.proofs.Common.{◌≡◌, ◌<◌, arith, length, get_or}
use Rattle.virtual_cpu.proofs.Prelude.{common_steps, Site, fresh_site}
use Rattle.std.proofs.lemmas.List.Edits.{map_over_more}
use Rattle.virtual_cpu.proofs.sites.refresh.Goals as goal

pub loop-at-preserved : goal.loop-at-preserved
loop-at-preserved c =
    let first = c.args.items.now.items in
    let items = c.loop-at.items.items in
    let at = c.loop-at.at in
    let within : at < length first = grind (arith, common_steps) in
    let read : c.index.result.now ≡ get_or items at c.index.result.now =
    grind (arith, common_steps) in
    record {
      items = rw (c.fresh_site.ensures, c.letter.ensures)
          (map_over_more (λ (s : Site). fresh_site s.letter) first items at c.index.result.now within
          c.loop-at.invariant.items read);
      count = c.loop-at.invariant.count;
      capacity = c.loop-at.invariant.capacity;
    }
