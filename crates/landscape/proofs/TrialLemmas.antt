-- The first step that shows a trial.
use Rattle.std.proofs.Common.{◌≡◌, ℕ, ◌+◌, ◌-◌, ◌<◌, List, Option, Some, None, true, false, refl, sym, ap, ◌∙◌, arith}
use Rattle.std.specs.Prelude.{filter_map, is_some, slice_get}
use Rattle.std.specs.List.{cons_option}
use Rattle.instruction_set.specs.declared.letter.Letter.{Letter}
use Rattle.organism.specs.OrganismState.{OrganismState}
use Rattle.landscape.specs.Trials.{organism_after, traced_organism, trial_after, trial_at, trial_of, trials_from}
use Rattle.organism.specs.TracedStep.{TracedStep, trace_step_of}
use Rattle.landscape.specs.declared.first_divide.Trial.{Trial}
use Rattle.landscape.proofs.RangeLemmas.{range_next}

-- the first trial of the steps that are left
abbrev pub first_from : List Letter → ℕ → ℕ → Option Trial
first_from genome from steps = slice_get (trials_from genome from (steps - from)) 0

-- a trial that is shown is the first
first_of : (shown : Option Trial) (others : List Trial) (trial : Trial) → shown ≡ Some trial
    → slice_get (cons_option shown others) 0 ≡ Some trial
first_of None others trial is = absurd cc
first_of (Some t) others trial is = is

-- where none is shown, the first is the first of the others
none_of : (shown : Option Trial) (others : List Trial) → shown ≡ None
    → slice_get (cons_option shown others) 0 ≡ slice_get others 0
none_of None others is = refl
none_of (Some t) others is = absurd cc

-- the first trial of the steps left is that of the next step, or the first after it
step_left : (genome : List Letter) (from steps : ℕ) → from < steps
    → first_from genome from steps
    ≡ slice_get (cons_option (trial_after genome from)
    (trials_from genome (from + 1) (steps - (from + 1)))) 0
step_left genome from steps within =
    ap (λ (ns : List ℕ). slice_get (filter_map (trial_after genome) ns) 0)
    (range_next from steps within)

-- what is shown of the step of an organism that has come so far
pub shown_after : (genome : List Letter) (n number : ℕ) (o : OrganismState) (step : TracedStep)
    (shown : Option Trial) → shown ≡ trial_at genome (number + 1) step.remark → number ≡ n
    → o ≡ organism_after (traced_organism genome) n → step ≡ (trace_step_of o).1
    → shown ≡ trial_after genome n
shown_after genome n number o step shown at same so is =
    at ∙ (λ i. trial_at genome (same i + 1) (is i).remark)
    ∙ (λ i. trial_at genome (n + 1) (trace_step_of (so i)).1.remark)

-- a trial that the next step shows is the first of the steps left
first_shown : (genome : List Letter) (from steps : ℕ) (trial : Trial) → from < steps
    → trial_after genome from ≡ Some trial → first_from genome from steps ≡ Some trial
first_shown genome from steps trial within shows =
    step_left genome from steps within
    ∙ first_of (trial_after genome from) (trials_from genome (from + 1) (steps - (from + 1)))
    trial shows

-- where the next step shows none, the first is that of the steps after it
none_shown : (genome : List Letter) (from steps : ℕ) → from < steps → trial_after genome from ≡ None
    → first_from genome from steps ≡ first_from genome (from + 1) steps
none_shown genome from steps within shows =
    step_left genome from steps within
    ∙ none_of (trial_after genome from) (trials_from genome (from + 1) (steps - (from + 1)))
    shows

-- what a step shows is the first trial of the steps that are left
pub found : (genome : List Letter) (from steps : ℕ) (shown : Option Trial) → from < steps
    → shown ≡ trial_after genome from → is_some shown ≡ true → shown ≡ first_from genome from steps
found genome from steps None within is some = absurd cc
found genome from steps (Some trial) within is some =
    sym (first_shown genome from steps trial within (sym is))

-- or it shows none, and the first is still to come
pub missed : (genome : List Letter) (from steps : ℕ) (shown : Option Trial) → from < steps
    → shown ≡ trial_after genome from → is_some shown ≡ false
    → first_from genome from steps ≡ first_from genome (from + 1) steps
missed genome from steps None within is none = none_shown genome from steps within (sym is)
missed genome from steps (Some trial) within is none = absurd cc

-- with all steps left, the first trial is the trial of the genome
pub first_start : (genome : List Letter) (steps : ℕ)
    → first_from genome 0 steps ≡ trial_of genome steps
unfolding trial_of
first_start genome steps = let e : steps - 0 ≡ steps = omega arith in
    ap (λ (n : ℕ). slice_get (trials_from genome 0 n) 0) e
