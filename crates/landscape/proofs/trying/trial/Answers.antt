use Rattle.std.proofs.Common.{add-one, ap, sym, ◌∙◌, arith}
use Rattle.genome.specs.Genome.{letters}
use Rattle.organism.specs.TracedStep.{trace_step_of, traced_value}
use Rattle.landscape.specs.Trials.{organism_after, traced_organism}
use Rattle.landscape.proofs.TrialLemmas.{first_start, found, missed, shown_after}
use Rattle.landscape.proofs.trying.trial.Goals as goal

pub loop-step-init : goal.loop-step-init
loop-step-init c = record {
  age = omega (arith, c.in_ok-organism.ensures.age);
  stepped = c.in_ok-organism.ensures.founded ∙ ap traced_organism c.in_ok-copy.ensures;
  left = first_start (letters c.args.genome.now) c.args.steps;
}

pub returns-then-is_some : goal.returns-then-is_some
returns-then-is_some c =
    let genome = letters c.args.genome.now in
    let n = c.loop-step.step in
    let shown = shown_after genome n c.from-number.result c.loop-step.organism
    (traced_value c.in_ok-traced.traced) c.trial_at-shown.result c.trial_at-shown.ensures
    c.from-number.ensures c.loop-step.invariant.stepped c.in_ok-traced.ensures.traced in
    found genome n c.args.steps c.trial_at-shown.result c.loop-step-test.true shown
    (sym c.is_some.ensures ∙ c.if-is_some.true) ∙ c.loop-step.invariant.left

pub loop-step-preserved : goal.loop-step-preserved
loop-step-preserved c =
    let genome = letters c.args.genome.now in
    let n = c.loop-step.step in
    let shown = shown_after genome n c.from-number.result c.loop-step.organism
    (traced_value c.in_ok-traced.traced) c.trial_at-shown.result c.trial_at-shown.ensures
    c.from-number.ensures c.loop-step.invariant.stepped c.in_ok-traced.ensures.traced in
    record {
      age = omega (arith, c.in_ok-traced.ensures.age, c.loop-step.invariant.age);
      stepped =
          c.in_ok-traced.ensures.steps
          ∙ (λ i. (trace_step_of (c.loop-step.invariant.stepped i)).0)
          ∙ sym (ap (organism_after (traced_organism genome)) (add-one n));
      left = sym (missed genome n c.args.steps c.trial_at-shown.result c.loop-step-test.true shown
          (sym c.is_some.ensures ∙ c.if-is_some.false)) ∙ c.loop-step.invariant.left;
    }
