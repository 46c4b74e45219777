-- One step of a trace, its rules of a divide, and what it tells (docs/FORMATS.md, "Trace lines";
-- docs/MACHINE.md, "The rules of a divide").
use Rattle.std.specs.Prelude.{ℕ, true, nat_le, if◌then◌else◌, ℤ, List, [], ◌∷◌, None, length}
use Rattle.organism.specs.Prelude.{RuleNumbers, Letter, Task, letters, letter_under_ip, child_part}
use Rattle.divide_rules.specs.declared.rule.Rule.{Rule}
pub use Rattle.organism.specs.OrganismState.{new_organism, OrganismState}
use Rattle.organism.specs.Life.{life_step, divide_merit, renewed}
use Rattle.organism.specs.declared.outcome.Outcome.{Outcome}
use Rattle.organism.specs.declared.outcome.Outcome.TheVariants as outcome
use Rattle.organism.specs.declared.traced.Traced.{Traced}
use Rattle.organism.specs.declared.traced.Remark.{Remark}
use Rattle.organism.specs.declared.traced.Remark.TheVariants as remark

-- the greatest length in the trace of a genome: 2048, or 8192 for a longer genome
abbrev pub trace_greatest : ℕ → ℕ
trace_greatest genome_length = if nat_le genome_length 2048 then 2048 else 8192

-- the rules in the trace of a genome of this length
unfoldable pub trace_rules : ℕ → RuleNumbers
trace_rules genome_length = record {
  least = 8;
  greatest = trace_greatest genome_length;
  executed_percent = 50;
  copied_percent = 50;
  need_alloc = true;
}

-- what a trace remarks: nothing, a task newly done, a divide refused or a viable divide
pub data TracedRemark : Type 0 where
  nothing : TracedRemark
  task : Task → TracedRemark
  -- the rule, what was found, and the bound
  refused : Rule → ℕ → ℕ → TracedRemark
  -- the places executed and copied, the merit, and the child
  divide : ℕ → ℕ → ℕ → List Letter → TracedRemark

-- a step: the place and the letter before it, the registers after it
pub record TracedStep : Type 0 where
  pub place : ℕ
  pub letter : Letter
  pub registers : List ℤ
  pub remark : TracedRemark

-- a remark, with the child as its letters
abbrev pub remark_value : Remark → TracedRemark
remark_value remark.Nothing = nothing
remark_value (remark.Task done) = task done
remark_value (remark.Refused rule found bound) = refused rule found bound
remark_value (remark.Divide executed copied merit child) =
    divide executed copied merit (letters child)

-- a traced step, with its remark
abbrev pub traced_value : Traced → TracedStep
traced_value t = record {
  place = t.place;
  letter = t.letter;
  registers = t.registers;
  remark = remark_value t.remark;
}

-- organism and remark after an outcome: a viable divide renews the parent, its child was written
abbrev pub remark_on : OrganismState → Outcome → OrganismState × TracedRemark
remark_on o outcome.Nothing = (o, nothing)
remark_on o (outcome.Task done) = (o, task done)
remark_on o (outcome.Refused rule found bound) = (o, refused rule found bound)
remark_on o (outcome.Viable ask) = (
  renewed o ask,
  divide ask.executed ask.copied (divide_merit o ask)
      (child_part o.machine.memory ask.read ask.end),
)

-- a step of a trace, without errors and death
unfoldable pub trace_step_of : OrganismState → OrganismState × TracedStep
trace_step_of o =
    let stepped = life_step o None (trace_rules (length o.genome)) in
    let after = remark_on stepped.0 stepped.1 in
    let registers = after.0.machine.registers in
    let traced : TracedStep = record {
      place = o.machine.heads.ip;
      letter = letter_under_ip o.machine;
      registers = registers.ax ∷ registers.bx ∷ registers.cx ∷ [];
      remark = after.1;
    } in
    (after.0, traced)
