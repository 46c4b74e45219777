-- A genome tried alone, as a trace runs it (docs/WORLD.md, "Landscapes"; docs/FORMATS.md, "Trace
-- lines").
use Rattle.std.specs.Prelude.{ℕ, zero, suc, List, [], ◌∷◌, length, ◌+◌, Option, None, Some, slice_get}
use Rattle.instruction_set.specs.declared.letter.Letter.{Letter}
use Rattle.logic_tasks.specs.LogicTasks.{no_tasks}
use Rattle.organism.specs.OrganismState.{OrganismState, new_organism}
use Rattle.organism.specs.TracedStep.{trace_greatest, TracedStep, trace_step_of, TracedRemark, divide}
use Rattle.std.specs.List.{filter_map, range_with_len}
use Rattle.instruction_set.specs.Letter.{same_letters}
use Rattle.landscape.specs.declared.first_divide.Trial.{Trial}

-- the organism that a trace begins with: no task done, merit its length, memory up to the greatest
abbrev pub organism_alone : List Letter → List ℕ → OrganismState
organism_alone letters inputs =
    new_organism letters inputs (length letters) no_tasks (trace_greatest (length letters))

-- the organism that a trace begins with to which no inputs are given
abbrev pub traced_organism : List Letter → OrganismState
traced_organism letters = organism_alone letters (0x0F0F0F0F ∷ 0x33333333 ∷ 0x55555555 ∷ [])

-- the organism after so many of its steps
abbrev pub organism_after : OrganismState → ℕ → OrganismState
organism_after organism zero = organism
organism_after organism (suc n) = (trace_step_of (organism_after organism n)).0

-- the step that follows so many others
abbrev pub step_after : OrganismState → ℕ → TracedStep
step_after organism n = (trace_step_of (organism_after organism n)).1

-- the trial of a genome that the step of this number shows: that of a viable divide
abbrev pub trial_at : List Letter → ℕ → TracedRemark → Option Trial
trial_at genome number (divide executed copied merit child) =
    Some (record { step = number; merit = merit; same = same_letters child genome })
trial_at genome number _ = None

-- the trial that the step after so many others, counted from 1, shows of an organism alone
abbrev pub trial_after : List Letter → ℕ → Option Trial
trial_after genome n = trial_at genome (n + 1) (step_after (traced_organism genome) n).remark

-- the trials that so many steps show, after some others
abbrev pub trials_from : List Letter → ℕ → ℕ → List Trial
trials_from genome from len = filter_map (trial_after genome) (range_with_len from len)

-- the trial of a genome: the first viable divide within so many steps, if there is one
unfoldable pub trial_of : List Letter → ℕ → Option Trial
trial_of genome steps = slice_get (trials_from genome 0 steps) 0
