use Rattle.std.proofs.Common.{arith, ℕ, Bool, ◌+◌, ◌≡◌, ap, refl, sym, ◌∙◌, true, false}
use Rattle.organism.proofs.Prelude.{Stream, word_of, Died, SettingNumbers, setting_numbers, LifeState, life_state, life_state_after, dies_at}
use Rattle.organism.proofs.GoingOnLemmas.{goes_on-more, old-at}
use Rattle.organism.proofs.UpdateLifeLemmas.{state_after-zero, state-next, dies-now, search-all, search-next, search-here, life-dies}
use Rattle.organism.proofs.organism.Organism.run.Goals.{After-has_age}
use Rattle.organism.proofs.organism.Organism.run.Goals as goal

pub loop-step-init : goal.loop-step-init
loop-step-init c =
    let start = life_state c.args.self.now c.args.births.now c.args.draws.now in
    let words = word_of c.args.draws.now in
    record {
      state = sym (state_after-zero (setting_numbers c.args.settings.now) words start);
      search = search-all (setting_numbers c.args.settings.now) words start c.args.slices;
      stream = refl;
      bounds = record {
        age = omega arith;
        births = omega arith;
        taken = omega arith;
        genome = refl;
        merit = λ h. h;
        merits = λ h. h;
        lengths = λ h. h;
      };
    }

module _ (c : After-has_age) where
  abbrev settings : SettingNumbers
  settings = setting_numbers c.args.settings.now

  -- the words of the stream at its start
  abbrev words : ℕ → ℕ
  words = word_of c.args.draws.now

  abbrev start : LifeState
  start = life_state c.args.self.now c.args.births.now c.args.draws.now

  -- the state after the step
  here : life_state c.live.new.self c.live.new.births c.live.new.draws
      ≡ life_state_after settings words start (c.loop-step.step + 1)
  here =
      state-next settings words (word_of c.loop-step.draws) start _ _ c.loop-step.step
      c.loop-step.invariant.state (ap word_of c.loop-step.invariant.stream)
      c.in_ok-live.ensures.state

  -- it dies in the step if it has the age of its death
  dies : (old : Bool) → c.has_age.result ≡ old → dies_at settings words start c.loop-step.step ≡ old
  dies old is =
      let bounds = goes_on-more settings c.loop-step.step _ _ _ c.loop-step.invariant.bounds
      c.in_ok-live.ensures.bounds in
      let aged = rw (← c.age_of_death-death.ensures) at
      (old-at settings c.args.self.now c.live.new.self bounds.genome
      (omega (arith, bounds.age, c.requires.age, c.requires.slices))) in
      dies-now settings words start _ c.loop-step.step old here
      (sym is ∙ c.has_age.ensures ∙ aged)

pub returns-then-has_age-clause-life : goal.returns-then-has_age-clause-life
returns-then-has_age-clause-life c =
    let at = (goal.at.returns-then-has_age-clause-life c).After-has_age in
    let first = search-here (dies_at (settings at) (words at) (start at)) c.loop-step.step
    c.args.slices _ c.loop-step-test.true c.loop-step.invariant.search
    (dies at true c.if-has_age.true) in
    ap (λ (s : LifeState). (s, Died (c.loop-step.step + 1))) (here at)
    ∙ sym (life-dies (settings at) (words at) (start at) c.args.slices c.loop-step.step first)

pub loop-step-preserved : goal.loop-step-preserved
loop-step-preserved c =
    let at = (goal.at.loop-step-preserved c).After-has_age in
    record {
      state = here at;
      search = search-next (dies_at (settings at) (words at) (start at)) c.loop-step.step
          c.args.slices _ c.loop-step-test.true c.loop-step.invariant.search
          (dies at false c.if-has_age.false);
      stream = c.in_ok-live.ensures.stream
          ∙ ap (λ (s : Stream). record s { taken = c.live.new.draws.taken })
          c.loop-step.invariant.stream;
      bounds = goes_on-more (settings at) c.loop-step.step _ _ _ c.loop-step.invariant.bounds
          c.in_ok-live.ensures.bounds;
    }
