use Rattle.std.proofs.Common.{◌∙◌, arith, append_assoc}
use Rattle.virtual_cpu.proofs.Prelude.{map_more, NopA, fresh_site}
use Rattle.virtual_cpu.proofs.sites.append_text.Goals as goal

pub loop-letter-preserved : goal.loop-letter-preserved
loop-letter-preserved c =
    let so_far = c.loop-letter.invariant in
    let at = c.loop-letter.letter-index in
    let text = c.args.text.now in
    let more = map_more fresh_site text at NopA (omega arith) in
    record {
      items = c.push_reserved.ensures.items
          ∙ rw (so_far.items, append_assoc, more, ← c.fresh_site.ensures);
      count = omega (arith, c.push_reserved.ensures.len);
      capacity = c.push_reserved.ensures.capacity ∙ so_far.capacity;
    }
