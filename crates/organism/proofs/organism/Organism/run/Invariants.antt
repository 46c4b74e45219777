use Rattle.std.proofs.Common.{◌≡◌, ◌-◌, ◌*◌}
use Rattle.organism.proofs.Prelude.{find, range_with_len, word_of, GoesOn, life_now, setting_numbers, life_state, life_state_after, dies_at, death_in}
use Rattle.organism.proofs.organism.Organism.run.Given as goal

abbrev pub invariant-loop-step : goal.invariant-loop-step
invariant-loop-step l =
    let start = life_state l.initial.self l.initial.births l.initial.draws in
    let words = word_of l.initial.draws in
    record {
      state : life_state l.self l.births l.draws
          ≡ life_state_after (setting_numbers l.settings) words start l.step;
      search : find (dies_at (setting_numbers l.settings) words start)
          (range_with_len l.step (l.slices - l.step))
          ≡ death_in (setting_numbers l.settings) words start l.slices;
      stream : l.draws ≡ record l.initial.draws { taken = l.draws.taken };
      bounds : GoesOn (setting_numbers l.settings) l.step l.step (65536 * l.step)
          (life_now l.initial.self l.initial.births l.initial.draws)
          (life_now l.self l.births l.draws);
    }
