use Rattle.std.proofs.Common.{drop, ◌∙◌}
use Rattle.left_right.specs.Sides.{view}
use Rattle.published_world.proofs.AppendLemmas.{applied, append_turns, append_leaves, at_ok}
use Rattle.published_world.proofs.history.show.Goals as goal

pub publish_as-requires : goal.publish_as-requires
publish_as-requires g c after is =
    let writer = c.args.writer in
    let pending = at_ok c.append.result _ c.if-is_err.ensures.negation c.append.ensures.pending in
    let desk = c.append.ensures.desk in
    let now = is ∙ (λ i. applied (pending i) (desk i).shown.value) in
    rw desk (append_turns g.P.Picture.number g.P.Picture.of (view writer.desk.place)
    writer.desk.shown.value (drop writer.behind writer.log.items) c.args.next
    writer.desk.place.id after c.requires.writer c.requires.count c.requires.next now)

pub returns-then-is_err-clause-writer : goal.returns-then-is_err-clause-writer
returns-then-is_err-clause-writer g c = rw c.append.ensures.desk c.requires.writer

pub returns : goal.returns
returns g c =
    let writer = c.args.writer in
    let desk = c.append.ensures.desk in
    let pending = at_ok c.append.result _ c.if-is_err.ensures.negation c.append.ensures.pending in
    let left = append_leaves g.P.Picture.number g.P.Picture.of (view c.append.new.self.desk.place)
    c.append.new.self.desk.shown.value (drop writer.behind writer.log.items) c.args.next
    c.publish_as.result.1 (view c.publish_as.result.0.desk.place)
    c.publish_as.result.0.desk.shown.value _ _ _ pending (rw desk c.requires.writer)
    (rw desk c.requires.count) (rw desk c.requires.next) c.publish_as.ensures.values
    c.publish_as.ensures.rule in
    record { writer = left.0; ok = rw desk at left.1; err = rw desk at left.2 }
