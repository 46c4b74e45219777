-- What `trace` writes (docs/FORMATS.md, "Trace lines").
use Rattle.std.specs.Prelude.{ℕ, ◌+◌, ◌++◌, [], List, map, codes, decimal}
use Rattle.avida_program.specs.Prelude.{flat_map, range_with_len, Letter, byte_of, name_of, rule_name_of, TracedStep, TracedRemark, nothing, task, refused, divide, spaced, spaced_value}
use Rattle.logic_tasks.specs.LogicTasks as tasks
use Rattle.organism.specs.OrganismState.{OrganismState}
use Rattle.landscape.specs.Trials.{organism_alone, step_after}
use Rattle.logic_tasks.specs.Inputs.{inputs_of}

-- what stands behind the registers
abbrev pub remark_text : TracedRemark → List ℕ
remark_text nothing = []
remark_text (task done) = codes " " ++ tasks.task_name done
remark_text (refused rule found bound) =
    codes " refused " ++ rule_name_of rule ++ spaced found ++ spaced bound
remark_text (divide executed copied merit child) =
    codes " divide" ++ spaced executed ++ spaced copied ++ spaced merit ++ codes " "
    ++ map byte_of child

-- the number, the place, the name and the registers of a step
abbrev pub step_text : ℕ → TracedStep → List ℕ
step_text number step =
    decimal number ++ spaced step.place ++ codes " " ++ name_of step.letter
    ++ flat_map spaced_value step.registers

-- the line of a step
abbrev pub trace_line : ℕ → TracedStep → List ℕ
trace_line number step = step_text number step ++ remark_text step.remark ++ codes "\n"

-- the lines of an organism's first steps, numbered from 1
abbrev pub trace_lines : OrganismState → ℕ → List ℕ
trace_lines organism steps =
    flat_map (λ n. trace_line (n + 1) (step_after organism n)) (range_with_len 0 steps)

-- what the trace of a genome writes, with the inputs of which these are the low bits
abbrev pub trace_text : List Letter → List ℕ → ℕ → List ℕ
trace_text letters low steps = trace_lines (organism_alone letters (inputs_of low)) steps
