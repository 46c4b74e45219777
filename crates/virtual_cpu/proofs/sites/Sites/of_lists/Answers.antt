use Rattle.std.proofs.Common.{◌≤◌, ◌∙◌, ap, arith, length, false}
use Rattle.virtual_cpu.proofs.Prelude.{NopA, Site, letters_of, clean_of, executed_of, copied_of}
use Rattle.virtual_cpu.proofs.SiteLemmas.{pushed, lists-whole}
use Rattle.virtual_cpu.proofs.sites.Sites.of_lists.Goals as goal

pub loop-at-preserved : goal.loop-at-preserved
loop-at-preserved c =
    let at = c.loop-at.at in
    let items = c.push_reserved.ensures.items in
    let so_far = c.loop-at.invariant in
    record {
      letters = ap letters_of items ∙ pushed (λ (s : Site). s.letter) _ _ c.args.letters.now at NopA
          (omega arith) so_far.letters (ap (λ (s : Site). s.letter) c.new.ensures);
      clean = ap clean_of items ∙ pushed (λ (s : Site). s.clean) _ _ c.args.clean.now at NopA
          (omega arith) so_far.clean (ap (λ (s : Site). s.clean) c.new.ensures);
      executed = ap executed_of items ∙ pushed (λ (s : Site). s.executed) _ _ c.args.executed.now at
          false (omega arith) so_far.executed (ap (λ (s : Site). s.executed) c.new.ensures);
      copied = ap copied_of items ∙ pushed (λ (s : Site). s.copied) _ _ c.args.copied.now at false
          (omega arith) so_far.copied (ap (λ (s : Site). s.copied) c.new.ensures);
      count = omega (arith, c.push_reserved.ensures.len);
      room = c.push_reserved.ensures.capacity ∙ so_far.room;
    }

pub returns : goal.returns
returns c =
    let so_far = c.loop-at.invariant in
    let letters : length c.args.letters.now ≤ c.loop-at.at = omega arith in
    lists-whole _ c.args.letters.now c.args.clean.now c.args.executed.now c.args.copied.now
    c.loop-at.at _ so_far.letters so_far.clean so_far.executed so_far.copied letters (omega arith)
    (omega arith) (omega arith) ∙ ap (λ room. record {
      letters = c.args.letters.now;
      clean = c.args.clean.now;
      executed = c.args.executed.now;
      copied = c.args.copied.now;
      room = room;
    }) so_far.room
