use Rattle.std.proofs.Common.{◌∙◌, ◌++◌, ◌∷◌, [], subst, sym}
use Rattle.cell_shards.proofs.Prelude.{on_ok_weaker, OrganismLife, IsToldBehind, Left}
use Rattle.cell_shards.proofs.lives.live_at.Goals as goal

pub returns : goal.returns
returns g c =
    let after : Left = record {
      standings = c.push.new.self;
      births = c.deliver.new.births;
      dead = c.bury.new.dead;
      seat = c.deliver.new.seat;
    } in
    on_ok_weaker c.deliver.result (λ delivered.
    subst (λ (l : OrganismLife). IsToldBehind c.args.cell l c.bury.new.slot c.args.left.now after)
    (sym c.in_ok-life.ensures)
    (record {
      left = c.in_ok-bury.ensures.slot;
      standings = c.in_ok-push.ensures.ok
          ∙ (λ i. c.args.left.now.standings ++ c.standing_in.ensures i ∷ []);
      dead = c.in_ok-bury.ensures.dead;
      births = delivered;
    })) c.deliver.ensures
