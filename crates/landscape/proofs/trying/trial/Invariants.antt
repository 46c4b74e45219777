use Rattle.std.proofs.Common.{◌≡◌, ◌≤◌}
use Rattle.genome.specs.Genome.{letters}
use Rattle.landscape.specs.Trials.{organism_after, traced_organism, trial_of}
use Rattle.landscape.proofs.TrialLemmas.{first_from}
use Rattle.landscape.proofs.trying.trial.Given as goal

-- the organism has come so far, and the first trial of the steps that are left is that of all
abbrev pub invariant-loop-step : goal.invariant-loop-step
invariant-loop-step l = record {
  age : l.organism.age ≤ l.step;
  stepped : l.organism ≡ organism_after (traced_organism (letters l.genome)) l.step;
  left : first_from (letters l.genome) l.step l.steps ≡ trial_of (letters l.genome) l.steps;
}
