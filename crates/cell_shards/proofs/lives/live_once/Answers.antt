use Rattle.std.proofs.Common.{◌≡◌, ap, map}
use Rattle.cell_shards.proofs.Prelude.{word_of, beginning, newborn_value, OrganismState, life_state, organism_once_made, round_numbers}
use Rattle.cell_shards.proofs.LivesLemmas.{life_of-run}
use Rattle.cell_shards.proofs.lives.live_once.Goals as goal

pub returns-clause-life : goal.returns-clause-life
returns-clause-life c =
    let o : OrganismState = organism_once_made c.args.body.now.organism c.args.body.now.pending in
    let begins : life_state c.make.new.self.organism c.none-births.result c.start-draws.result
    ≡ beginning o = λ i. record {
      organism = c.in_ok-make.ensures.organism i;
      newborns = map newborn_value (c.none-births.ensures i);
      next = (c.start-draws.ensures i).taken;
    } in
    life_of-run (round_numbers c.args.round.now) c.args.cell c.args.steps o
    (word_of c.start-draws.result) _
    (life_state c.run.new.self c.run.new.births c.run.new.draws) c.in_ok-ran.ran
    c.is_death.result (ap word_of c.start-draws.ensures) begins c.in_ok-ran.ensures.life
    c.is_death.ensures
