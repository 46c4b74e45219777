use Rattle.std.proofs.Common.{◌≡◌, ◌∙◌, ◌∷◌, ap, map, List, rules, ℕ}
use Rattle.cell_shards.proofs.Prelude.{into_iter_items, NewbornValue, newborn_value, born_in}
use Rattle.organism.specs.declared.newborn.Newborn.{Newborn}
use Rattle.cell_shards.proofs.InterningLemmas.{HasInterned-more, births-more}
use Rattle.cell_shards.proofs.delivering.deliver_each.Goals as goal

pub loop-newborn-preserved : goal.loop-newborn-preserved
loop-newborn-preserved g c =
    let laws = c.calls_number_genotypes.ensures in
    let told = c.in_ok-delivered.ensures in
    let kept = c.deliver_one.ensures.kept in
    let so_far = c.loop-newborn.invariant in
    let before = c.loop-newborn.births in
    let delivered = c.in_ok-delivered.delivered in
    let born = born_in c.args.cell in
    let births : List Newborn → List (ℕ × NewbornValue) = λ newborns. map born (map newborn_value newborns) in
    let left = into_iter_items c.loop-newborn.newborn-iterator in
    let rest = into_iter_items c.next.new.self in
    let taken : left ≡ c.in-Some.newborn ∷ rest = search rules in
    record {
      births = births-more before c.push.new.self delivered
          (born (newborn_value c.in-Some.newborn)) (births rest) (births left)
          c.in_ok-push.ensures.ok told.birth (ap births taken) ∙ so_far.births;
      bank = kept.0 ∙ so_far.bank;
      seat = λ start has. HasInterned-more laws.seen laws.stay start c.loop-newborn.seat
          c.deliver_one.new.seat before c.push.new.self delivered (so_far.seat start has) kept.0
          kept.1 told.call told.number c.in_ok-push.ensures.ok;
    }
