use Rattle.organism.proofs.LivedLemmas.{lived}
use Rattle.organism.proofs.SoundLemmas.{LowerLaws}
use Rattle.organism.proofs.laws.lives_are_sound.Goals as goal

pub returns : goal.returns
returns c =
    let laws : LowerLaws = record {
      steps = c.steps_leave_machines.ensures.machine;
      asks = c.steps_leave_machines.ensures.question;
      keeps = c.steps_leave_machines.ensures.kept;
      starts = c.texts_start_machines.ensures;
      holds = c.machines_hold_words.ensures.step;
      begins = c.machines_hold_words.ensures.start;
      viable = c.viable_divides_keep_the_rules.ensures;
      bounded = c.merits_are_bounded.ensures.bounded;
      positive = c.merits_are_bounded.ensures.positive;
      applies = c.drawn_records_apply.ensures;
      form = c.drawn_records_have_form.ensures;
    } in
    lived laws
