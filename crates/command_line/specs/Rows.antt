-- The table of commands (docs/FORMATS.md, "The command line").
use Rattle.std.specs.Prelude.{ℕ, List, [], ◌∷◌, Option, codes, option_and_then, Some}
use Rattle.command_line.specs.Form.{Form, Told}
use Rattle.command_line.specs.Words.{told_by}
use Rattle.command_line.specs.Commands.{assay_of, positional_form, positional_number_at, positional_of, run_of, trace_of, workers_at, workers_form, inputs_option, watch_option, workers_option}
use Rattle.command_line.specs.declared.assay.Assay.{Assay}
use Rattle.command_line.specs.declared.positional.Positional.{Positional}
use Rattle.command_line.specs.declared.run.Run.{Run}
use Rattle.command_line.specs.declared.trace.Trace.{Trace}

-- a command: its name, its form, the names of the positionals, what is taken of what words tell
pub record CommandRow (T : Type 0) : Type 0 where
  pub name : List ℕ
  pub form : Form
  pub texts : List (List ℕ)
  pub take : Told → Option T

-- what the words after the name tell the command of a row
abbrev pub told_by_row : {T : Type 0} → CommandRow T → List (List ℕ) → Option T
told_by_row row words = option_and_then row.take (told_by row.form words)

-- a command of this name with one number, by its name to the parser, up to this, and `--workers`
abbrev pub positional_row : List ℕ → List ℕ → ℕ → CommandRow Positional
positional_row name text greatest =
    record { name = name; form = positional_form; texts = text ∷ []; take = positional_of greatest }

-- `trace steps [--org] [--inputs a,b,c]`
abbrev pub trace_row : CommandRow Trace
trace_row = record {
  name = codes "trace";
  form = record { options = inputs_option ∷ []; flags = codes "org" ∷ []; positionals = 1 };
  texts = codes "steps" ∷ [];
  take = trace_of;
}

-- `run [--workers k] [--watch looks]`
abbrev pub run_row : CommandRow Run
run_row = record {
  name = codes "run";
  form = record { options = workers_option ∷ watch_option ∷ []; flags = []; positionals = 0 };
  texts = [];
  take = run_of;
}

-- `save [--workers k]`
abbrev pub save_row : CommandRow ℕ
save_row = record { name = codes "save"; form = workers_form; texts = []; take = workers_at 0 }

-- `landscape steps`
abbrev pub landscape_row : CommandRow ℕ
landscape_row = record {
  name = codes "landscape";
  form = record { options = []; flags = []; positionals = 1 };
  texts = codes "steps" ∷ [];
  take = positional_number_at 1 100000 0;
}

-- `assay count first [--workers k]`
abbrev pub assay_row : CommandRow Assay
assay_row = record {
  name = codes "assay";
  form = record { options = workers_option ∷ []; flags = []; positionals = 2 };
  texts = codes "count" ∷ codes "first" ∷ [];
  take = assay_of;
}

-- a command that takes no words
abbrev pub nothing_row : CommandRow (Unit {0})
nothing_row = record {
  name = codes "bare";
  form = record { options = []; flags = []; positionals = 0 };
  texts = [];
  take = λ told. Some tt;
}
